use Rattle.std.proofs.Common.{◌≡◌, ◌++◌, map, take}
use Rattle.row_machine.specs.machine.Usage.{instance_load}
use Rattle.row_readings.proofs.amounts.add_instances.Given as goal

abbrev pub invariant-loop-row : goal.invariant-loop-row
invariant-loop-row l = l.all.items ≡ l.initial.all.items ++ map (instance_load l.view) (take l.row-index l.rows)
