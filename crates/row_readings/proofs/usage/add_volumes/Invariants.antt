use Rattle.std.proofs.Common.{◌≡◌, ◌+◌, take}
use Rattle.std.specs.List.{sum_by}
use Rattle.size_values.specs.Amounts.{part}
use Rattle.size_values.specs.declared.amounts.Part.{Part}
use Rattle.row_readings.specs.Counted.{volume_part}
use Rattle.row_readings.proofs.usage.add_volumes.Given as goal

abbrev pub invariant-loop-row : goal.invariant-loop-row
invariant-loop-row l = (k : Part) → part k l.sum ≡ part k l.fn.used + sum_by (volume_part l.project k) (take l.row-index l.rows)
