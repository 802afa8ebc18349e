use Rattle.std.proofs.Common.{◌≡◌, map, take}
use Rattle.row_readings.proofs.on_pools.no_sums.Given as goal

abbrev pub invariant-loop-limit : goal.invariant-loop-limit
invariant-loop-limit l = l.sums.items ≡ map (λ limit. 0) (take l._limit-index l.limits)
