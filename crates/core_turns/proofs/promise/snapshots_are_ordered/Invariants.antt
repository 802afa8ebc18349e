use Rattle.std.proofs.Common.{take}
use Rattle.plain_lists.specs.Members.{Each}
use Rattle.records.specs.declared.rows.Snapshot.{Snapshot}
use Rattle.records.specs.declared.rows.Row.TheVariants as row
use Rattle.machine_laws.specs.Sorted.{IsSortedRow}
use Rattle.core_turns.proofs.promise.snapshots_are_ordered.Given as goal

abbrev pub invariant-loop-snapshot : goal.invariant-loop-snapshot
invariant-loop-snapshot l = Each (λ (r : Snapshot). IsSortedRow (row.Snapshot r)) (take l.snapshot-index l.snapshots)
