use Rattle.records.specs.declared.rows.Volume.{Volume}
use Rattle.records.specs.declared.rows.Row.TheVariants as row
use Rattle.row_codec.specs.Rows.{HasTypedParts}
use Rattle.core_reopening.proofs.Typed.{each-all, each-next}
use Rattle.core_reopening.proofs.rows.volumes_are_typed.Goals as goal

pub loop-volume-preserved : goal.loop-volume-preserved
loop-volume-preserved c =
    each-next (λ (r : Volume). HasTypedParts (row.Volume r)) c.args.volumes.now c.loop-volume.volume-index c.volume-item.result c.loop-volume-test.true c.volume-item.is
    (rw c.deref.ensures at c.volume_is_typed.ensures) c.loop-volume.invariant

pub returns : goal.returns
returns c =
    each-all (λ (r : Volume). HasTypedParts (row.Volume r)) c.args.volumes.now c.loop-volume.volume-index c.loop-volume-test.false c.loop-volume.invariant
