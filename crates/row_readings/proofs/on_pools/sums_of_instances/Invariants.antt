use Rattle.std.proofs.Common.{◌≡◌, filter, map, take}
use Rattle.std.specs.Str.{bytes_eq}
use Rattle.row_machine.specs.machine.Usage.{instance_load}
use Rattle.row_readings.specs.Layered.{profiles_of}
use Rattle.row_readings.specs.PoolLimits.{pool_sums}
use Rattle.row_readings.proofs.on_pools.sums_of_instances.Given as goal

abbrev pub invariant-loop-row : goal.invariant-loop-row
invariant-loop-row l =
    (l.expanded ≡ profiles_of l.view.profiles l.home l.last)
    × (l.sums.items ≡ pool_sums (map (instance_load l.view) (filter (λ row. bytes_eq row.project l.project) (take l.row-index l.rows))) l.limits)
