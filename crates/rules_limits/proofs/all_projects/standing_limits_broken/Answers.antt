use Rattle.std.proofs.Common.{sym, ap, ◌∙◌}
use Rattle.row_machine.specs.machine.State.{State}
use Rattle.rules_refusals.proofs.Saying.{says-as}
use Rattle.rules_limits.specs.AllProjects.{is_any_limited}
use Rattle.rules_limits.proofs.Serving.{limits-split}
use Rattle.rules_limits.proofs.Unlimited.{unlimited-fits}
use Rattle.rules_limits.proofs.all_projects.standing_limits_broken.Goals as goal

pub returns-then-not-is_any_limited : goal.returns-then-not-is_any_limited
returns-then-not-is_any_limited c =
    unlimited-fits c.args.view.now c.args.view.now
    (ap (λ (s : State). is_any_limited s.projects) (sym c.view.view_is)
    ∙ ap is_any_limited (sym (c.deref.ensures.value ∙ c.in_ok-projects.ensures))
    ∙ sym c.is_any_limited.ensures ∙ c.if-not-is_any_limited.true)

pub returns : goal.returns
returns c = says-as c.limits_exceed-exceeded.result (limits-split c.args.view.now c.args.view.now c.in_ok-before.before c.in_ok-before.ensures) c.limits_exceed-exceeded.ensures
