use Rattle.std.proofs.Common.{◌≡◌, None, take}
use Rattle.rules_policy.specs.Within.{own_claim}
use Rattle.plain_lists.specs.Firsts.{first_of}
use Rattle.rules_policy.proofs.policy.claims_forbid.Given as goal

-- those before break nothing
abbrev pub invariant-loop-operation : goal.invariant-loop-operation
invariant-loop-operation l = first_of (λ o. own_claim l.view l.project l.number o.work) (take l.operation-index l.live) ≡ None
