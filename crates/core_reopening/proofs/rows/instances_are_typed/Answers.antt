use Rattle.records.specs.declared.rows.Instance.{Instance}
use Rattle.records.specs.declared.rows.Row.TheVariants as row
use Rattle.row_codec.specs.Rows.{HasTypedParts}
use Rattle.core_reopening.proofs.Typed.{each-all, each-next}
use Rattle.core_reopening.proofs.rows.instances_are_typed.Goals as goal

pub loop-instance-preserved : goal.loop-instance-preserved
loop-instance-preserved c =
    each-next (λ (r : Instance). HasTypedParts (row.Instance r)) c.args.instances.now c.loop-instance.instance-index c.instance-item.result c.loop-instance-test.true c.instance-item.is
    (rw c.deref.ensures at c.instance_is_typed.ensures) c.loop-instance.invariant

pub returns : goal.returns
returns c =
    each-all (λ (r : Instance). HasTypedParts (row.Instance r)) c.args.instances.now c.loop-instance.instance-index c.loop-instance-test.false c.loop-instance.invariant
