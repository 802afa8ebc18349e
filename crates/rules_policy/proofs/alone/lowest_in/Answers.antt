use Rattle.std.proofs.Common.{sym, subst, ◌∙◌}
use Rattle.std.specs.Result.{IfOk}
use Rattle.rules_policy.specs.Lowest.{HoldBelow}
use Rattle.rules_policy.specs.Within.{own_claim}
use Rattle.rules_policy.proofs.Unrestricted.{unrestricted-claim}
use Rattle.rules_policy.proofs.alone.lowest_in.Goals as goal

pub returns-then-not-is_restricted : goal.returns-then-not-is_restricted
returns-then-not-is_restricted c = λ n less.
    unrestricted-claim c.args.project.now n (sym c.is_restricted.ensures ∙ c.if-not-is_restricted.true) c.args.view.now c.args.work.now

pub returns : goal.returns
returns c =
    subst (λ p. IfOk c.lowest_of_claim.result (λ lowest. HoldBelow lowest (λ n. own_claim c.args.view.now p n c.args.work.now))) c.new.ensures
    c.lowest_of_claim.ensures
