-- A cancel of an operation that runs leads to the call that takes its deed back, and then to Cancelled, and no row
-- changes.
use Rattle.std.specs.Prelude.{◌≡◌, ℕ, true, Some, None, is_some}
use Rattle.std.specs.Option.{option_map}
use Rattle.host_model.specs.declared.call.HostCall.{HostCall}
use Rattle.host_model.specs.declared.report.Report.{Report}
use Rattle.instance_states.specs.Plans.{undo_of, name_of}
use Rattle.operations.specs.declared.operation.Operation.{Operation}
use Rattle.operations.specs.declared.status.Status.TheVariants as status
use Rattle.operations.specs.OperationTable.{live_at}
use Rattle.records.specs.declared.commands.Command.{Command}
use Rattle.records.specs.declared.commands.What.TheVariants as what
use Rattle.records.specs.declared.replies.Reply.TheVariants as reply
use Rattle.row_machine.specs.declared.events.Event.{Event}
use Rattle.row_machine.specs.declared.events.Event.TheVariants as event
use Rattle.row_machine.specs.declared.events.Answer.TheVariants as answer
use Rattle.row_machine.specs.machine.Task.{Task}
use Rattle.row_machine.specs.machine.State.{State}
use Rattle.row_machine.specs.opening.Records.{rows_of}
use Rattle.row_machine.specs.machine.Operations.{undone}
use Rattle.row_machine.specs.machine.Accept.{After}
use Rattle.row_machine.specs.machine.Step.{Outcome, step, well}
use Rattle.row_machine.specs.facts.Whole.{IsWhole}
use Rattle.machine_laws.specs.Possible.{IsPossible}
use Rattle.machine_laws.specs.Headline.{IsKeptAs}

-- ---- the cancel

-- The operation is Cancelling, with the call that takes its deed back still to be handed out. No row changed.
pub record IsBeingCancelled (state : State) (operation : Operation Task) (moment : ℕ) (after : After) : Type 0 where
  pub answer : after.answer ≡ answer.Reply reply.Empty
  pub cancelling : live_at after.state.operations operation.number
      ≡ Some (record operation { status = status.Cancelling; updated = moment })
  pub undo : option_map name_of operation.work.undo ≡ undo_of operation.work.deed
  pub undoable : is_some operation.work.undo ≡ true
  pub rows : rows_of after.state ≡ rows_of state

-- a cancel of an operation that runs and may be cancelled, by a client of any project, is accepted
abbrev pub RunningIsCancelled : Type 0
RunningIsCancelled = (state : State) (command : Command) (operation : Operation Task) (moment : ℕ) →
    IsWhole state → live_at state.operations operation.number ≡ Some operation → operation.status ≡ status.Running
    → operation.may_cancel ≡ true → command.what ≡ what.Cancel operation.number →
    (after : After)
    × ((step state (event.Ask command moment) well ≡ Some after) × IsBeingCancelled state operation moment after)

-- ---- what follows

-- the deed is taken back: whatever is reported of the call that was out, the worker gets the call that does it
pub record IsTakenBack (state : State) (operation : Operation Task) (call : HostCall) (after : After) : Type 0 where
  pub answer : after.answer ≡ answer.Job operation.number call
  pub cancelling : live_at after.state.operations operation.number
      ≡ Some (record operation { work = undone operation.work })
  pub rows : rows_of after.state ≡ rows_of state

-- the operation is Cancelled: whatever is reported of that call, it is over
pub record IsCancelled (state : State) (operation : Operation Task) (after : After) : Type 0 where
  pub answer : after.answer ≡ answer.Ended operation.number
  pub kept : IsKeptAs after.state operation status.Cancelled
  pub over : live_at after.state.operations operation.number ≡ None
  pub rows : rows_of after.state ≡ rows_of state

-- the two reports that follow the cancel
pub record CancelGoesOn (state : State) (operation : Operation Task) (report : Report) (moment : ℕ) : Type 0 where
  pub first : (call : HostCall) → operation.work.undo ≡ Some call
      → (after : After)
      × ((step state (event.Done operation.number report moment) well ≡ Some after)
      × IsTakenBack state operation call after)
  pub second : operation.work.undo ≡ None
      → (after : After)
      × ((step state (event.Done operation.number report moment) well ≡ Some after) × IsCancelled state operation after)

abbrev pub CancellingGoesOn : Type 0
CancellingGoesOn = (state : State) (operation : Operation Task) (report : Report) (moment : ℕ) →
    IsWhole state → live_at state.operations operation.number ≡ Some operation → operation.status ≡ status.Cancelling
    → CancelGoesOn state operation report moment

-- ---- nothing else happens to it

-- it is as it was, or its deed is taken back, or it is Cancelled
pub data StaysCancelling (state later : State) (operation : Operation Task) : Type 0 where
  as_it_was : live_at later.operations operation.number ≡ Some operation → StaysCancelling state later operation
  taken_back : (call : HostCall) → operation.work.undo ≡ Some call
      → live_at later.operations operation.number ≡ Some (record operation { work = undone operation.work })
      → rows_of later ≡ rows_of state → StaysCancelling state later operation
  cancelled : operation.work.undo ≡ None → IsKeptAs later operation status.Cancelled
      → live_at later.operations operation.number ≡ None → rows_of later ≡ rows_of state
      → StaysCancelling state later operation

-- whatever other requests and reports come between
abbrev pub CancellingStays : Type 0
CancellingStays = (state : State) (event : Event) (outcome : Outcome) (after : After) (operation : Operation Task) →
    IsWhole state → IsPossible event → step state event outcome ≡ Some after
    → live_at state.operations operation.number ≡ Some operation → operation.status ≡ status.Cancelling →
    StaysCancelling state after.state operation
