use Rattle.records.specs.declared.rows.Snapshot.{Snapshot}
use Rattle.records.specs.declared.rows.Row.TheVariants as row
use Rattle.row_codec.specs.Rows.{HasTypedParts}
use Rattle.core_reopening.proofs.Typed.{each-all, each-next}
use Rattle.core_reopening.proofs.rows.snapshots_are_typed.Goals as goal

pub loop-snapshot-preserved : goal.loop-snapshot-preserved
loop-snapshot-preserved c =
    each-next (λ (r : Snapshot). HasTypedParts (row.Snapshot r)) c.args.snapshots.now c.loop-snapshot.snapshot-index c.snapshot-item.result c.loop-snapshot-test.true c.snapshot-item.is
    (rw c.deref.ensures at c.snapshot_is_typed.ensures) c.loop-snapshot.invariant

pub returns : goal.returns
returns c =
    each-all (λ (r : Snapshot). HasTypedParts (row.Snapshot r)) c.args.snapshots.now c.loop-snapshot.snapshot-index c.loop-snapshot-test.false c.loop-snapshot.invariant
