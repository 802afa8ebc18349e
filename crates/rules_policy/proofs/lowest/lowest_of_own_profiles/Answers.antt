use Rattle.std.proofs.Common.{sym, filter, ap, ◌∙◌}
use Rattle.std.specs.Str.{bytes_eq}
use Rattle.plain_lists.specs.Firsts.{first_of}
use Rattle.row_machine.specs.machine.State.{State}
use Rattle.rules_policy.specs.Within.{own_profile}
use Rattle.rules_policy.proofs.OwnRows.{own-profiles}
use Rattle.rules_policy.proofs.lowest.lowest_of_own_profiles.Goals as goal

pub returns : goal.returns
returns c = λ n less.
    let project = c.args.project.now in
    let rule = own_profile project n in
    let profiles = c.view.inside.profiles.now in
    ap (λ (s : State). first_of rule s.profiles) (sym c.view.view_is)
    ∙ sym (own-profiles project n profiles)
    ∙ ap (first_of rule) (sym (c.rows_of.ensures ∙ ap (λ name. filter (λ row. bytes_eq row.project name) profiles) c.name.ensures))
    ∙ c.lowest_of_profiles.ensures n less
