use Rattle.std.proofs.Common.{subst}
use Rattle.std.specs.Prelude.{IfSome}
use Rattle.operations.specs.declared.operation.Operation.{Operation}
use Rattle.row_machine.specs.machine.Task.{Task}
use Rattle.machine_laws.specs.Sorted.{IsSortedRow}
use Rattle.core_turns.proofs.Ordered.{each-next}
use Rattle.core_turns.proofs.promise.claims_are_ordered.Goals as goal

pub loop-operation-preserved : goal.loop-operation-preserved
loop-operation-preserved c =
    each-next (λ (o : Operation Task). IfSome o.work.claim IsSortedRow) c.args.live.now c.loop-operation.operation-index c.operation-item.result
    c.loop-operation-test.true c.operation-item.is
    (subst (λ (o : Operation Task). IfSome o.work.claim IsSortedRow) c.operation.view_is c.claim_is_ordered.ensures) c.loop-operation.invariant
