use Rattle.std.proofs.Common.{◌≡◌, take}
use Rattle.std.specs.List.{filter_map}
use Rattle.row_machine.specs.machine.Usage.{claim_load}
use Rattle.row_readings.specs.PoolLimits.{pool_sums}
use Rattle.row_readings.proofs.on_pools.claim_sums.Given as goal

abbrev pub invariant-loop-operation : goal.invariant-loop-operation
invariant-loop-operation l =
    l.sums.items ≡ pool_sums (filter_map (λ o. claim_load l.view o.work) (take l.operation-index l.live)) l.limits
