use Rattle.std.proofs.Common.{◌≡◌, ◌++◌, take}
use Rattle.std.specs.List.{filter_map}
use Rattle.row_machine.specs.machine.Usage.{claim_load}
use Rattle.row_readings.proofs.amounts.add_claims.Given as goal

abbrev pub invariant-loop-operation : goal.invariant-loop-operation
invariant-loop-operation l = l.all.items ≡ l.initial.all.items ++ filter_map (λ o. claim_load l.view o.work) (take l.operation-index l.live)
