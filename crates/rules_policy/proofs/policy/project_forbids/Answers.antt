use Rattle.std.proofs.Common.{sym, ap, ◌∙◌}
use Rattle.rules_policy.specs.Within.{own_objects}
use Rattle.rules_policy.proofs.Judged.{forbids-split}
use Rattle.rules_policy.proofs.Unrestricted.{unrestricted-free}
use Rattle.rules_refusals.proofs.Saying.{says-as}
use Rattle.rules_policy.proofs.policy.project_forbids.Goals as goal

pub returns-then-not-is_restricted : goal.returns-then-not-is_restricted
returns-then-not-is_restricted c =
    unrestricted-free c.args.project.now c.args.number (sym c.is_restricted.ensures ∙ c.if-not-is_restricted.true) c.args.view.now

pub returns : goal.returns
returns c =
    says-as c.objects_forbid.result
    (ap (λ p. own_objects c.args.view.now p c.args.number) c.new.ensures ∙ forbids-split c.args.view.now c.args.number c.args.project.now)
    c.objects_forbid.ensures
