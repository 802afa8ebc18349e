use Rattle.records.specs.declared.rows.Snapshot.{Snapshot}
use Rattle.records.specs.declared.rows.Row.TheVariants as row
use Rattle.machine_laws.specs.Sorted.{IsSortedRow}
use Rattle.core_turns.proofs.Ordered.{each-all, each-next}
use Rattle.core_turns.proofs.promise.snapshots_are_ordered.Goals as goal

pub loop-snapshot-preserved : goal.loop-snapshot-preserved
loop-snapshot-preserved c =
    each-next (λ (r : Snapshot). IsSortedRow (row.Snapshot r)) c.args.snapshots.now c.loop-snapshot.snapshot-index c.snapshot-item.result c.loop-snapshot-test.true c.snapshot-item.is
    (rw (c.deref.ensures, c.deref-in-loop-snapshot.ensures) at c.layer_is_ordered.ensures) c.loop-snapshot.invariant

pub returns : goal.returns
returns c =
    each-all (λ (r : Snapshot). IsSortedRow (row.Snapshot r)) c.args.snapshots.now c.loop-snapshot.snapshot-index c.loop-snapshot-test.false c.loop-snapshot.invariant
