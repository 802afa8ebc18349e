use Rattle.std.proofs.Common.{take}
use Rattle.plain_lists.specs.Firsts.{first_of}
use Rattle.rules_policy.specs.Within.{own_instance}
use Rattle.rules_policy.specs.Lowest.{HoldBelow}
use Rattle.rules_policy.proofs.lowest.lowest_of_instances.Given as goal

-- those before break no rule of a lower number
abbrev pub invariant-loop-row : goal.invariant-loop-row
invariant-loop-row l = HoldBelow l.lowest (λ n. first_of (own_instance l.view l.project n) (take l.row-index l.rows))
