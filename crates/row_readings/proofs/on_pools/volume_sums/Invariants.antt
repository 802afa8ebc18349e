use Rattle.std.proofs.Common.{◌≡◌, map, take}
use Rattle.row_machine.specs.machine.Usage.{volume_load}
use Rattle.row_readings.specs.PoolLimits.{pool_sums}
use Rattle.row_readings.proofs.on_pools.volume_sums.Given as goal

abbrev pub invariant-loop-row : goal.invariant-loop-row
invariant-loop-row l = l.sums.items ≡ pool_sums (map volume_load (take l.row-index l.rows)) l.limits
