use Rattle.std.proofs.Common.{◌≡◌, ◌+◌, take}
use Rattle.std.specs.List.{sum_by}
use Rattle.size_values.specs.Amounts.{part}
use Rattle.size_values.specs.declared.amounts.Part.{Part}
use Rattle.row_readings.specs.Counted.{instance_part}
use Rattle.row_readings.specs.Layered.{profiles_of}
use Rattle.row_readings.proofs.instances.add_expanded.Given as goal

abbrev pub invariant-loop-row : goal.invariant-loop-row
invariant-loop-row l =
    (l.expanded ≡ profiles_of l.view.profiles l.home l.last)
    × ((k : Part) → part k l.sum ≡ part k l.fn.used + sum_by (instance_part l.view l.project k) (take l.row-index l.rows))
