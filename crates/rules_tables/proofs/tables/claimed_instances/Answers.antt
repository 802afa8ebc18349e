use Rattle.row_machine.specs.machine.Claims.{claimed_instance}
use Rattle.rules_tables.proofs.Counts.{counted-more}
use Rattle.rules_tables.proofs.tables.claimed_instances.Goals as goal

pub loop-operation-preserved : goal.loop-operation-preserved
loop-operation-preserved c =
    counted-more (λ o. claimed_instance o.work) c.args.live.now c.loop-operation.operation-index c.loop-operation.count c.instances_in-count.result c.operation-item.result
    c.loop-operation-test.true c.operation-item.is c.loop-operation.invariant c.instances_in-count.ensures.is c.instances_in-count.ensures.few
