use Rattle.records.specs.declared.rows.Instance.{Instance}
use Rattle.records.specs.declared.rows.Row.TheVariants as row
use Rattle.machine_laws.specs.Sorted.{IsSortedRow}
use Rattle.core_turns.proofs.Ordered.{each-all, each-next}
use Rattle.core_turns.proofs.promise.instances_are_ordered.Goals as goal

pub loop-instance-preserved : goal.loop-instance-preserved
loop-instance-preserved c =
    each-next (λ (r : Instance). IsSortedRow (row.Instance r)) c.args.instances.now c.loop-instance.instance-index c.instance-item.result c.loop-instance-test.true c.instance-item.is
    (rw (c.deref.ensures, c.deref-in-loop-instance.ensures) at c.layer_is_ordered.ensures) c.loop-instance.invariant

pub returns : goal.returns
returns c =
    each-all (λ (r : Instance). IsSortedRow (row.Instance r)) c.args.instances.now c.loop-instance.instance-index c.loop-instance-test.false c.loop-instance.invariant
