use Rattle.std.proofs.Common.{sym, ap, ◌∙◌}
use Rattle.plain_lists.specs.Firsts.{first_of}
use Rattle.row_machine.specs.machine.Holders.{user_in}
use Rattle.row_machine.specs.machine.State.{State}
use Rattle.rules_refusals.proofs.Saying.{says-as}
use Rattle.rules_conflicts.specs.Users.{claim_url}
use Rattle.rules_conflicts.proofs.AtHome.{claims-alone}
use Rattle.rules_conflicts.proofs.users.unused_in.Goals as goal

pub returns-then-not-project_may_use : goal.returns-then-not-project_may_use
returns-then-not-project_may_use c =
    let view = c.args.view.now in
    let home = c.args.home.now in
    let of = c.args.of.now in
    let project = c.view-project.result.now in
    says-as c.unused_by_claims.result
    (ap (λ (s : State). first_of (claim_url view home of project) s.operations.live) c.view.view_is
    ∙ claims-alone view home of project (sym c.project_may_use.ensures ∙ c.if-not-project_may_use.true)
    ∙ ap (user_in view home of) c.view-project.ensures.value)
    c.unused_by_claims.ensures
