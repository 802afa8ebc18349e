use Rattle.std.proofs.Common.{◌≡◌, take}
use Rattle.row_readings.specs.PoolLimits.{together}
use Rattle.row_readings.proofs.on_pools.together.Given as goal

abbrev pub invariant-loop-place : goal.invariant-loop-place
invariant-loop-place l = l.sums.items ≡ together (take l.place l.some) (take l.place l.more) (take l.place l.others)
