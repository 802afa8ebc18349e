use Rattle.std.proofs.Common.{take}
use Rattle.plain_lists.specs.Firsts.{first_of}
use Rattle.rules_policy.specs.Within.{own_claim}
use Rattle.rules_policy.specs.Lowest.{HoldBelow}
use Rattle.rules_policy.proofs.alone.lowest_in_all.Given as goal

-- those before break no rule of a lower number
abbrev pub invariant-loop-project : goal.invariant-loop-project
invariant-loop-project l = HoldBelow l.lowest (λ n. first_of (λ p. own_claim l.view p n l.work) (take l.project-index l.projects))
