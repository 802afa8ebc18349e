use Rattle.std.proofs.Common.{◌≡◌, take}
use Rattle.row_readings.specs.PoolLimits.{pool_sums}
use Rattle.row_readings.proofs.on_pools.pool_sums.Given as goal

-- the table of what counted so far
abbrev pub invariant-loop-load : goal.invariant-loop-load
invariant-loop-load l = l.sums.items ≡ pool_sums (take l.load-index l.loads) l.lines
