use Rattle.std.proofs.Common.{take}
use Rattle.plain_lists.specs.Members.{Each}
use Rattle.records.specs.declared.rows.Instance.{Instance}
use Rattle.records.specs.declared.rows.Row.TheVariants as row
use Rattle.machine_laws.specs.Sorted.{IsSortedRow}
use Rattle.core_turns.proofs.promise.instances_are_ordered.Given as goal

abbrev pub invariant-loop-instance : goal.invariant-loop-instance
invariant-loop-instance l = Each (λ (r : Instance). IsSortedRow (row.Instance r)) (take l.instance-index l.instances)
