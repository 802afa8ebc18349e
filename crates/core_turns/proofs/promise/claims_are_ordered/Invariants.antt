use Rattle.std.proofs.Common.{take}
use Rattle.std.specs.Prelude.{IfSome}
use Rattle.plain_lists.specs.Members.{Each}
use Rattle.operations.specs.declared.operation.Operation.{Operation}
use Rattle.row_machine.specs.machine.Task.{Task}
use Rattle.machine_laws.specs.Sorted.{IsSortedRow}
use Rattle.core_turns.proofs.promise.claims_are_ordered.Given as goal

abbrev pub invariant-loop-operation : goal.invariant-loop-operation
invariant-loop-operation l = Each (λ (o : Operation Task). IfSome o.work.claim IsSortedRow) (take l.operation-index l.live)
