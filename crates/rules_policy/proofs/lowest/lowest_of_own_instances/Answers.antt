use Rattle.std.proofs.Common.{◌≡◌, ℕ, IfOk, filter, ap, subst, ◌∙◌}
use Rattle.std.specs.Str.{bytes_eq}
use Rattle.plain_lists.specs.Firsts.{first_of}
use Rattle.row_machine.specs.machine.State.{State}
use Rattle.rules_policy.specs.Lowest.{HoldBelow}
use Rattle.rules_policy.specs.Within.{own_instance}
use Rattle.rules_policy.proofs.OwnRows.{own-instances}
use Rattle.rules_policy.proofs.lowest.lowest_of_own_instances.Goals as goal

pub returns : goal.returns
returns c =
    let state = c.args.view.now in
    let project = c.args.project.now in
    let instances = c.view.inside.instances.now in
    let same : (λ n. first_of (own_instance state project n) c.rows_of.result.now) ≡ (λ n. first_of (own_instance state project n) state.instances) =
    λ i n. (ap (first_of (own_instance state project n)) (c.rows_of.ensures ∙ ap (λ name. filter (λ row. bytes_eq row.project name) instances) c.name.ensures)
    ∙ own-instances project n state instances
    ∙ ap (λ (s : State). first_of (own_instance state project n) s.instances) c.view.view_is) i in
    subst (λ of. IfOk c.lowest_of_instances.result (λ lowest. HoldBelow lowest of)) same c.lowest_of_instances.ensures
