use Rattle.std.proofs.Common.{filter, sym, ap, ◌∙◌}
use Rattle.std.specs.Str.{bytes_eq}
use Rattle.row_machine.specs.machine.State.{State}
use Rattle.rules_refusals.proofs.Saying.{says-as}
use Rattle.rules_policy.specs.Alone.{claim_forbidden, claim_forbidden_in}
use Rattle.rules_policy.proofs.OwnRows.{claim-alone, no-claim}
use Rattle.rules_policy.proofs.alone.claim_forbidden.Goals as goal

pub returns-in-Some : goal.returns-in-Some
unfolding claim_forbidden
returns-in-Some c =
    let state = c.args.view.now in
    let task = c.args.work.now in
    let row = c.in-Some.row.now in
    says-as c.claim_forbidden_in.result
    (ap (λ projects. claim_forbidden_in state projects task)
    (c.rows_of-projects.ensures
    ∙ ap (λ name. filter (λ project. bytes_eq project.name name) c.view.inside.projects.now) c.view-in-Some.ensures.value
    ∙ ap (λ (s : State). filter (λ project. bytes_eq project.name row.project) s.projects) c.view.view_is)
    ∙ claim-alone state task row (sym c.in-Some.ensures))
    c.claim_forbidden_in.ensures

pub returns-in-None : goal.returns-in-None
unfolding claim_forbidden
returns-in-None c = no-claim c.args.view.now c.args.work.now (sym c.in-None.ensures)
