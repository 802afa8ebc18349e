-- The jobs of a worker: a call that an operation hands out, and what the report of one makes of the rows.
use Rattle.std.specs.Prelude.{◌≡◌, ℕ, List, [], ◌∷◌, Option, Some, None}
use Rattle.host_model.specs.declared.call.HostCall.{HostCall}
use Rattle.host_model.specs.declared.report.Report.{Report}
use Rattle.host_model.specs.declared.report.Report.TheVariants as report
use Rattle.operations.specs.declared.operation.Operation.{Operation}
use Rattle.operations.specs.declared.status.Status.{Status}
use Rattle.operations.specs.declared.status.Status.TheVariants.{Running}
use Rattle.operations.specs.OperationTable.{live_at}
use Rattle.record_keeper.specs.Store.{Store}
use Rattle.records.specs.declared.notices.Untold.{Untold}
use Rattle.row_machine.specs.declared.changes.RowChange.{RowChange}
use Rattle.row_machine.specs.declared.events.Answer.{Answer}
use Rattle.row_machine.specs.declared.events.Answer.TheVariants as answer
use Rattle.row_machine.specs.declared.events.Event.TheVariants as event
use Rattle.row_machine.specs.machine.Task.{Task}
use Rattle.row_machine.specs.machine.State.{State}
use Rattle.row_machine.specs.machine.Accept.{and_then}
use Rattle.row_machine.specs.machine.Step.{Outcome, well, step, first_pending}
use Rattle.row_machine.specs.machine.Operations.{success_changes}
use Rattle.row_machine.specs.shown.Notices.{telling}
use Rattle.core_reports.specs.Stores.{IsCaused, Stores, KeepsRecords}
use Rattle.core_reports.specs.declared.jobs.Turned.{Turned}
use Rattle.core_reports.specs.declared.jobs.Turned.TheVariants as turned

-- ---- a worker asks for a call

-- A worker got a call as one step of the machine, and these notices are left untold; or nothing waits, and all stays.
abbrev pub IsTaken : State → ℕ → Option (ℕ × HostCall) → State → List Untold → Type 0
IsTaken state moment (Some (op, call)) later untold =
    step state (event.Take moment) well ≡ Some (and_then (answer.Job op call) (telling untold later))
IsTaken state moment None later untold = (first_pending state ≡ None) × (later ≡ state) × (untold ≡ [])

-- ---- a worker reports of a call

-- the answer of the machine that this is
abbrev pub answer_of : ℕ → Turned → Answer
answer_of op turned.Stray = answer.Stray op
answer_of op (turned.Next call) = answer.Job op call
answer_of op turned.Ended = answer.Ended op

-- the changes that the last call of a deed commits
abbrev pub changes_at_last : State → Operation Task → List HostCall → List RowChange
changes_at_last state operation [] = success_changes state operation.work
changes_at_last state operation (call ∷ calls) = []

-- of an operation that runs, those of its success where the report is that its last call was done
abbrev pub changes_while : State → Operation Task → Report → Status → List RowChange
changes_while state operation report.Done Running = changes_at_last state operation operation.work.calls
changes_while state operation other status = []

-- the changes that a report of this operation commits
abbrev pub changes_by : State → Report → Option (Operation Task) → List RowChange
changes_by state report None = []
changes_by state report (Some operation) = changes_while state operation report operation.status

-- the changes that a report commits: those of the success of an operation, at the report that its last call was done
unfoldable pub changes_reported : State → ℕ → Report → List RowChange
changes_reported state op report = changes_by state report (live_at state.operations op)

-- A report was taken as one step of the machine, with an outcome that the keeper's count bears out: the changes of
-- rows went to the store, and these notices are left untold. Entries that were the records of the rows are so
-- afterwards.
pub record IsReported (state : State) (op : ℕ) (report : Report) (moment : ℕ) (later : State)
    (untold : List Untold) (result : Turned) (store store' : Store) : Type 0 where
  pub outcome : Outcome
  pub caused : IsCaused outcome store.failures store'.failures
  pub stored : Stores (changes_reported state op report) outcome store store'
  pub is : step state (event.Done op report moment) outcome
      ≡ Some (and_then (answer_of op result) (telling untold later))
  pub kept : KeepsRecords store.contents state store'.contents later
