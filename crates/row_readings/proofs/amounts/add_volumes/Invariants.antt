use Rattle.std.proofs.Common.{◌≡◌, ◌++◌, map, take}
use Rattle.row_machine.specs.machine.Usage.{volume_load}
use Rattle.row_readings.proofs.amounts.add_volumes.Given as goal

abbrev pub invariant-loop-row : goal.invariant-loop-row
invariant-loop-row l = l.all.items ≡ l.initial.all.items ++ map volume_load (take l.row-index l.rows)
