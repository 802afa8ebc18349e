use Rattle.std.proofs.Common.{sym, ap, ◌∙◌, inr}
use Rattle.row_machine.specs.machine.State.{State}
use Rattle.rules_limits.specs.AllProjects.{is_any_limited}
use Rattle.rules_limits.proofs.Unchanged.{stays-free}
use Rattle.rules_limits.proofs.usage.usage_before_changes.Goals as goal

pub returns : goal.returns
returns c =
    inr (
    stays-free c.args.view.now c.args.changes.now
    (ap (λ (s : State). is_any_limited s.projects) (sym c.view.view_is) ∙ sym c.have_limits.ensures ∙ c.if-have_limits.false)
    (sym c.is_any_limit_set.ensures ∙ c.if-is_any_limit_set.false)
    )
