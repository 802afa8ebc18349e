use Rattle.std.proofs.Common.{take}
use Rattle.plain_lists.specs.Firsts.{first_of}
use Rattle.rules_policy.specs.Within.{own_claim}
use Rattle.rules_policy.specs.Lowest.{HoldBelow}
use Rattle.rules_policy.proofs.lowest.lowest_of_claims.Given as goal

-- those before break no rule of a lower number
abbrev pub invariant-loop-operation : goal.invariant-loop-operation
invariant-loop-operation l = HoldBelow l.lowest (λ n. first_of (λ o. own_claim l.view l.project n o.work) (take l.operation-index l.live))
