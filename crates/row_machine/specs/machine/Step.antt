-- One step of the machine: what each event is answered, with each outcome of the outside, and the state after it.
use Rattle.std.specs.Prelude.{◌+◌, ◌∷◌, if◌then◌else◌}
use Rattle.row_machine.specs.Words.{ℕ, true, List, [], Option, Some, None, find, is_some, Rise, HostCall, Report}
use Rattle.row_machine.specs.Words.{OpFault, Status, Cancelling, is_pending, live_at, Command, Filter, Refusal}
use Rattle.row_machine.specs.Words.{Report as report, Rule as rule, Reply as reply, Operation, OpFault as fault}
use Rattle.row_machine.specs.Words.{RowChange, Event, Event as event, Answer, Answer as answer}
use Rattle.row_machine.specs.Estate.{Task, State, plain_refusal}
use Rattle.row_machine.specs.Doings.{Plan, changes, plan_of, telling, success_notices, since, with_task, moved}
use Rattle.row_machine.specs.Doings.{handing_out, one_more_done, undone, succeeded, failed, cancelled, success_changes}
use Rattle.row_machine.specs.machine.Rules.{broken}
use Rattle.row_machine.specs.machine.Accept.{After, and_then, accepted, with_operation_notice}

-- What the outside made of a step: all went well, the store failed and its count rose, or memory was refused.
pub data Outcome : Type 0 where
  well : Outcome
  keeper_failed : Rise → Outcome
  no_memory : Outcome

-- the store is asked for changes at once alone
abbrev pub unavailable : State → Plan → Option After
unavailable state (changes row_changes) = Some (and_then (answer.Reply (reply.Refused (plain_refusal rule.K1))) state)
unavailable state other = None

abbrev pub after_command : State → Command → ℕ → Outcome → Option Refusal → Option After
after_command state command moment well (Some refusal) = Some (and_then (answer.Reply (reply.Refused refusal)) state)
after_command state command moment well None = Some (accepted state command moment)
after_command state command moment (keeper_failed rise) (Some refusal) = None
after_command state command moment (keeper_failed rise) None = unavailable state (plan_of state command moment)
after_command state command moment no_memory refused = Some (and_then answer.NoMemory state)

-- the lowest-numbered operation that waits for its first call
abbrev pub first_pending : State → Option (Operation Task)
first_pending state = find (λ operation. is_pending operation.status) state.operations.live

abbrev pub handed_out : State → Operation Task → ℕ → List HostCall → After
handed_out state operation moment [] = and_then answer.NoJob state
handed_out state operation moment (call ∷ rest) =
    and_then (answer.Job operation.number call)
    (with_operation_notice
    (with_task operation.number (handing_out operation.work rest) (moved operation.number Status.Running moment state))
    operation.number moment)

abbrev pub taken : State → ℕ → Option (Operation Task) → After
taken state moment (Some operation) = handed_out state operation moment operation.work.calls
taken state moment None = and_then (if state.closed then answer.Closed else answer.NoJob) state

-- an operation ended: its lifecycle notices, if it succeeded, and then itself
abbrev pub after_end : State → ℕ → ℕ → After
after_end state number moment = and_then (answer.Ended number) (with_operation_notice state number moment)

abbrev pub success : State → Operation Task → ℕ → After
success state operation moment =
    after_end (telling (success_notices operation.work moment) (succeeded state operation moment))
    operation.number moment

abbrev pub failure : State → Operation Task → OpFault → ℕ → ℕ → After
failure state operation why done moment = after_end (failed state operation why done moment) operation.number moment

-- The last call was done: the rows are committed. A change of state that removes nothing commits nothing.
abbrev pub committed : State → Operation Task → ℕ → Outcome → List RowChange → Option After
committed state operation moment well row_changes = Some (success state operation moment)
committed state operation moment (keeper_failed rise) [] = None
committed state operation moment (keeper_failed rise) (change ∷ row_changes) =
    Some (failure state operation (fault.Keeper rise.before rise.after) (operation.work.done + 1) moment)
committed state operation moment no_memory row_changes =
    Some (failure state operation fault.NoMemory (operation.work.done + 1) moment)

abbrev pub call_done : State → Operation Task → ℕ → Outcome → List HostCall → Option After
call_done state operation moment well (call ∷ rest) =
    Some
    (and_then (answer.Job operation.number call) (with_task operation.number (one_more_done operation.work rest) state))
call_done state operation moment other (call ∷ rest) = None
call_done state operation moment outcome [] =
    committed state operation moment outcome (success_changes state operation.work)

abbrev pub call_failed : State → Operation Task → ℕ → Outcome → OpFault → Option After
call_failed state operation moment well why = Some (failure state operation why operation.work.done moment)
call_failed state operation moment other why = None

abbrev pub while_running : State → Operation Task → Report → ℕ → Outcome → Option After
while_running state operation report.Done moment outcome = call_done state operation moment outcome operation.work.calls
while_running state operation (report.Failed rise) moment outcome =
    call_failed state operation moment outcome (fault.Host (operation.work.done + 1) rise.before rise.after)
while_running state operation report.NoMemory moment outcome = call_failed state operation moment outcome fault.NoMemory

-- whatever is reported, the deed is taken back; and then the operation is cancelled
abbrev pub while_cancelling : State → Operation Task → ℕ → Outcome → Option HostCall → Option After
while_cancelling state operation moment well (Some call) =
    Some (and_then (answer.Job operation.number call) (with_task operation.number (undone operation.work) state))
while_cancelling state operation moment well None =
    Some (after_end (cancelled state operation.number moment) operation.number moment)
while_cancelling state operation moment other undo = None

-- no call of the operation is out
abbrev pub stray : State → ℕ → Outcome → Option After
stray state number well = Some (and_then (answer.Stray number) state)
stray state number other = None

abbrev pub reported : State → Operation Task → Report → ℕ → Outcome → Status → Option After
reported state operation report moment outcome Status.Running = while_running state operation report moment outcome
reported state operation report moment outcome Cancelling =
    while_cancelling state operation moment outcome operation.work.undo
reported state operation report moment outcome other = stray state operation.number outcome

abbrev pub done : State → ℕ → Report → ℕ → Outcome → Option (Operation Task) → Option After
done state number report moment outcome (Some operation) =
    reported state operation report moment outcome operation.status
done state number report moment outcome None = stray state number outcome

abbrev pub always : After → Outcome → Option After
always after well = Some after
always after other = None

-- a listener gets what it asks for, or is refused memory
abbrev pub fetched : State → ℕ → Filter → Outcome → Option After
fetched state cursor filter well = Some (and_then (answer.Fetched (since state cursor filter)) state)
fetched state cursor filter (keeper_failed rise) = None
fetched state cursor filter no_memory = Some (and_then answer.NoMemory state)

-- One step. None where an outcome is not possible with the event.
unfoldable pub step : State → Event → Outcome → Option After
step state (event.Ask command moment) outcome = after_command state command moment outcome (broken state command moment)
step state (event.Look number) outcome = always (and_then looked state) outcome where
  looked : Answer
  looked = if is_some (live_at state.operations number) then answer.NotYet number else answer.Ended number
step state (event.Take moment) outcome = always (taken state moment (first_pending state)) outcome
step state (event.Done number report moment) outcome =
    done state number report moment outcome (live_at state.operations number)
step state (event.Fetch cursor filter) outcome = fetched state cursor filter outcome
step state event.Close outcome = always (and_then answer.Closed (record state { closed = true })) outcome
