-- The parts of a job: a first call that is handed out, and what waits to be told of an operation.
use Rattle.std.specs.Prelude.{◌≡◌, ℕ, ◌+◌, List, [], ◌∷◌, Option, Some, None, option_map}
use Rattle.std.specs.Option.{option_to_list}
use Rattle.host_model.specs.declared.call.HostCall.{HostCall}
use Rattle.operations.specs.declared.operation.Operation.{Operation}
use Rattle.host_model.specs.declared.report.Report.{Report}
use Rattle.host_model.specs.declared.report.Report.TheVariants as report
use Rattle.operations.specs.declared.operation.OpFault.TheVariants as fault
use Rattle.operations.specs.declared.status.Status.{Status}
use Rattle.operations.specs.declared.status.Status.TheVariants.{Running, Cancelling}
use Rattle.operations.specs.OperationTable.{OperationTable, kept_at}
use Rattle.row_machine.specs.machine.Task.{Task}
use Rattle.row_machine.specs.machine.State.{State}
use Rattle.row_machine.specs.machine.Step.{first_pending}
use Rattle.row_machine.specs.machine.Operations.{with_task, moved, handing_out}
use Rattle.core_reports.specs.declared.turns.Turn.{Turn}
use Rattle.core_reports.specs.declared.turns.Turn.TheVariants as turn
use Rattle.core_reports.specs.declared.waiting.Waiting.{Waiting}
use Rattle.core_reports.specs.declared.waiting.Waiting.TheVariants as waiting

-- an operation, as it waits to be told
abbrev pub shown_as : ℕ → Operation Task → Waiting
shown_as moment operation = waiting.Shown record {
  moment = moment;
  number = operation.number;
  status = operation.status;
  may_cancel = operation.may_cancel;
  created = operation.created;
  updated = operation.updated;
  fault = operation.fault;
}

-- the operation of a number, if it is kept
abbrev pub shown_at : OperationTable Task → ℕ → ℕ → List Waiting
shown_at operations number moment = option_to_list (option_map (shown_as moment) (kept_at operations number))

-- the first operation that waits runs, and its first call was handed out
pub record IsBegun (state : State) (number moment : ℕ) (call : HostCall) (later : State) : Type 0 where
  pub of : Operation Task
  pub rest : List HostCall
  pub numbered : of.number ≡ number
  pub first : first_pending state ≡ Some of
  pub calls : of.work.calls ≡ call ∷ rest
  pub made : later ≡ with_task of.number (handing_out of.work rest) (moved of.number Running moment state)

-- ---- what comes of a report

-- one more call was done: the next one is handed out, or it was the last
abbrev pub turn_done : List HostCall → Turn
turn_done [] = turn.Last
turn_done (call ∷ calls) = turn.Next

-- of one that runs
abbrev pub turn_running : Task → Report → Turn
turn_running task report.Done = turn_done task.calls
turn_running task (report.Failed rise) = turn.Fails (fault.Host (task.done + 1) rise.before rise.after)
turn_running task report.NoMemory = turn.Fails fault.NoMemory

-- of one that is being cancelled, whatever is reported
abbrev pub turn_cancelling : Option HostCall → Turn
turn_cancelling None = turn.Cancels
turn_cancelling (Some call) = turn.Undo

-- by the status
abbrev pub turn_while : Operation Task → Report → Status → Turn
turn_while operation report Running = turn_running operation.work report
turn_while operation report Cancelling = turn_cancelling operation.work.undo
turn_while operation report other = turn.Stray

-- of the live operation of a number
abbrev pub turn_of : Option (Operation Task) → Report → Turn
turn_of None report = turn.Stray
turn_of (Some operation) report = turn_while operation report operation.status
