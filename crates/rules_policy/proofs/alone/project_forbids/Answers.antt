use Rattle.std.proofs.Common.{sym, ap, ◌∙◌}
use Rattle.rules_policy.specs.Within.{own_claim}
use Rattle.rules_policy.proofs.Unrestricted.{unrestricted-claim}
use Rattle.rules_refusals.proofs.Saying.{says-as}
use Rattle.rules_policy.proofs.alone.project_forbids.Goals as goal

pub returns-then-not-is_restricted : goal.returns-then-not-is_restricted
returns-then-not-is_restricted c =
    unrestricted-claim c.args.project.now c.args.number (sym c.is_restricted.ensures ∙ c.if-not-is_restricted.true) c.args.view.now c.args.work.now

pub returns : goal.returns
returns c = says-as c.claim_forbids.result (ap (λ p. own_claim c.args.view.now p c.args.number c.args.work.now) c.new.ensures) c.claim_forbids.ensures
