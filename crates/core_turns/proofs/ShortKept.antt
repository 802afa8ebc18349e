-- What operations that are kept are about has short texts.
use Rattle.std.proofs.Common.{◌≡◌, ℕ, Some, ◌++◌}
use Rattle.plain_lists.proofs.Elements.{Each-append}
use Rattle.plain_lists.proofs.Searches.{find-some}
use Rattle.operations.specs.declared.operation.Operation.{Operation}
use Rattle.operations.specs.OperationTable.{has_number, kept_at}
use Rattle.row_machine.specs.machine.State.{State}
use Rattle.row_machine.specs.machine.Task.{Task}
use Rattle.core_turns.specs.ShortTasks.{AreShort, IsShortTask}

pub short-kept : (s : State) (number : ℕ) (o : Operation Task) → AreShort s → kept_at s.operations number ≡ Some o → IsShortTask o.work
short-kept s number o short found =
    (Each-append short.live short.ended).at o (find-some (has_number number) (s.operations.live ++ s.operations.ended) o found).0
