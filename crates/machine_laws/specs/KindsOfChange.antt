-- What each kind of change keeps: all ten facts.
use Rattle.std.specs.Prelude.{◌≡◌, ℕ, ◌<◌, true, List, [], ◌∷◌, Some}
use Rattle.size_values.specs.Moments.{moment_limit}
use Rattle.size_values.specs.declared.kinds.ObjectKind.{ObjectKind}
use Rattle.host_model.specs.declared.call.HostCall.{HostCall}
use Rattle.operations.specs.declared.operation.Operation.{Operation}
use Rattle.operations.specs.declared.operation.OpFault.{OpFault}
use Rattle.operations.specs.declared.status.Status.TheVariants.{Running, Cancelling}
use Rattle.operations.specs.OperationTable.{live_at}
use Rattle.records.specs.declared.commands.Command.{Command}
use Rattle.records.specs.declared.commands.Target.{Target}
use Rattle.records.specs.declared.notices.Untold.{Untold}
use Rattle.row_machine.specs.declared.changes.RowChange.{RowChange}
use Rattle.row_machine.specs.machine.Task.{Task}
use Rattle.row_machine.specs.machine.State.{State}
use Rattle.row_machine.specs.machine.Asked.{object_of}
use Rattle.row_machine.specs.machine.Changes.{applied}
use Rattle.row_machine.specs.machine.Plans.{changes, starts}
use Rattle.row_machine.specs.shown.Notices.{telling}
use Rattle.row_machine.specs.machine.Step.{first_pending}
use Rattle.row_machine.specs.machine.Operations.{entered, with_task, moved, handing_out, one_more_done, undone}
use Rattle.row_machine.specs.machine.Operations.{cancelled}
use Rattle.row_machine.specs.machine.Operations.{failed, succeeded}
use Rattle.row_machine.specs.facts.Whole.{IsWhole}
use Rattle.machine_laws.specs.Accepted.{IsAccepted, IsLiveAs}

-- ---- rows at once

-- an accepted command that puts or removes rows at once, about an object of this kind
abbrev pub RowsKeep : ObjectKind → Type 0
RowsKeep kind = (state : State) (command : Command) (of : Target) (moment : ℕ) (row_changes : List RowChange) →
    object_of command.what ≡ Some of → of.kind ≡ kind → IsAccepted state command moment (changes row_changes)
    → IsWhole (applied state row_changes)

-- ---- operations

-- an operation is entered
abbrev pub EntriesKeep : Type 0
EntriesKeep = (state : State) (command : Command) (moment : ℕ) (task : Task)
    → IsAccepted state command moment (starts task) → IsWhole (entered state task moment)

-- the first call of the first that waits is handed out, and it runs
abbrev pub FirstCallsKeep : Type 0
FirstCallsKeep = (state : State) (operation : Operation Task) (call : HostCall) (rest : List HostCall) (moment : ℕ) →
    moment < moment_limit → IsWhole state → first_pending state ≡ Some operation → operation.work.calls ≡ call ∷ rest →
    IsWhole (with_task operation.number (handing_out operation.work rest) (moved operation.number Running moment state))

-- the next call of one that runs is handed out
abbrev pub NextCallsKeep : Type 0
NextCallsKeep = (state : State) (operation : Operation Task) (call : HostCall) (rest : List HostCall) →
    IsLiveAs state operation Running → operation.work.calls ≡ call ∷ rest
    → IsWhole (with_task operation.number (one_more_done operation.work rest) state)

-- one that runs and may be cancelled becomes Cancelling
abbrev pub CancelsKeep : Type 0
CancelsKeep = (state : State) (operation : Operation Task) (moment : ℕ) →
    moment < moment_limit → IsLiveAs state operation Running → operation.may_cancel ≡ true
    → IsWhole (moved operation.number Cancelling moment state)

-- the call that takes its deed back is handed out
abbrev pub UndoCallsKeep : Type 0
UndoCallsKeep = (state : State) (operation : Operation Task) (call : HostCall) →
    IsLiveAs state operation Cancelling → operation.work.undo ≡ Some call
    → IsWhole (with_task operation.number (undone operation.work) state)

-- ---- ends

abbrev pub CancelledKeeps : Type 0
CancelledKeeps = (state : State) (operation : Operation Task) (moment : ℕ) →
    moment < moment_limit → IsWhole state → live_at state.operations operation.number ≡ Some operation
    → IsWhole (cancelled state operation.number moment)

abbrev pub FailureKeeps : Type 0
FailureKeeps = (state : State) (operation : Operation Task) (why : OpFault) (done moment : ℕ) →
    moment < moment_limit → IsLiveAs state operation Running → IsWhole (failed state operation why done moment)

abbrev pub SuccessKeeps : Type 0
SuccessKeeps = (state : State) (operation : Operation Task) (moment : ℕ) →
    moment < moment_limit → IsLiveAs state operation Running → operation.work.calls ≡ []
    → IsWhole (succeeded state operation moment)

-- ---- notices, and the end of all work

abbrev pub NoticesKeep : Type 0
NoticesKeep = (state : State) (notices : List Untold) → IsWhole state → IsWhole (telling notices state)

abbrev pub ClosingKeeps : Type 0
ClosingKeeps = (state : State) → IsWhole state → IsWhole (record state { closed = true })
