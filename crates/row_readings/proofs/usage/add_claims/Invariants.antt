use Rattle.std.proofs.Common.{◌≡◌, ◌+◌, take}
use Rattle.std.specs.List.{sum_by}
use Rattle.size_values.specs.Amounts.{part}
use Rattle.size_values.specs.declared.amounts.Part.{Part}
use Rattle.row_readings.specs.Counted.{claim_part}
use Rattle.row_readings.proofs.usage.add_claims.Given as goal

abbrev pub invariant-loop-operation : goal.invariant-loop-operation
invariant-loop-operation l = (k : Part) → part k l.sum ≡ part k l.fn.used + sum_by (λ o. claim_part l.view l.project k o.work) (take l.operation-index l.live)
