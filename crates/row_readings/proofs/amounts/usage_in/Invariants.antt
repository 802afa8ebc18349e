use Rattle.std.proofs.Common.{◌≡◌, take}
use Rattle.std.specs.List.{sum_by}
use Rattle.size_values.specs.Amounts.{part}
use Rattle.size_values.specs.declared.amounts.Part.{Part}
use Rattle.row_machine.specs.machine.Usage.{amount_for}
use Rattle.row_readings.proofs.amounts.usage_in.Given as goal

abbrev pub invariant-loop-load : goal.invariant-loop-load
invariant-loop-load l = (k : Part) → part k l.used ≡ sum_by (amount_for l.project k) (take l.load-index l.loads)
