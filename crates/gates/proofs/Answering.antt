-- Which answers each event can have.
use Rattle.std.proofs.Common.{ℕ, max, Bool, cond, true, false, List, [], ◌∷◌, Option, Some, None}
use Rattle.host_model.specs.declared.call.HostCall.{HostCall}
use Rattle.host_model.specs.declared.report.Report.{Report}
use Rattle.host_model.specs.declared.report.Report.TheVariants as report
use Rattle.operations.specs.declared.operation.Operation.{Operation}
use Rattle.operations.specs.declared.operation.OpFault.{OpFault}
use Rattle.operations.specs.declared.status.Status.{Status}
use Rattle.operations.specs.declared.status.Status.TheVariants as status
use Rattle.operations.specs.OperationTable.{live_at}
use Rattle.row_machine.specs.declared.changes.RowChange.{RowChange}
use Rattle.row_machine.specs.declared.events.Answer.{Answer}
use Rattle.row_machine.specs.declared.events.Answer.TheVariants as answer
use Rattle.row_machine.specs.declared.events.Event.{Event}
use Rattle.row_machine.specs.declared.events.Event.TheVariants as event
use Rattle.row_machine.specs.machine.State.{State}
use Rattle.row_machine.specs.machine.Task.{Task}
use Rattle.row_machine.specs.machine.Operations.{success_changes}
use Rattle.row_machine.specs.machine.Accept.{After}
use Rattle.row_machine.specs.machine.Step.{Outcome, well, keeper_failed, no_memory, step, always, call_done}
use Rattle.row_machine.specs.machine.Step.{call_failed, committed, done, first_pending, handed_out, reported, stray}
use Rattle.row_machine.specs.machine.Step.{taken, while_cancelling, while_running}
use Rattle.records.specs.declared.notices.Filter.{Filter}
use Rattle.gates.specs.History.{MayAnswer}
use Rattle.gates.specs.Times.{no_earlier}
use Rattle.rest_answers.proofs.ForClients.{Speaks, turned_speaks}
use Rattle.gates.specs.Answers.{IsForListener, IsForLooker, IsForReporter, IsForTaker}

-- what holds of the answer of each step holds of the answer that the server may give
pub may : (such : Answer → Type 0) (e : Event) (a : Answer)
    → ((s : State) (latest : ℕ) (outcome : Outcome) → Speaks such (step s (no_earlier latest e) outcome))
    → MayAnswer e a → such a
may such e a each h = turned_speaks such h.from.state (no_earlier h.latest e) h.outcome a h.to.state
    (each h.from.state h.latest h.outcome) h.by.turns.is

-- an answer that is always given
always_speaks : (such : Answer → Type 0) (after : After) (outcome : Outcome) → such after.answer
    → Speaks such (always after outcome)
always_speaks such after well speaks = speaks
always_speaks such after (keeper_failed rise) speaks = tt
always_speaks such after no_memory speaks = tt

-- ---- looks

looked_speaks : (s : State) (number : ℕ) (outcome : Outcome) → Speaks IsForLooker (step s (event.Look number) outcome)
unfolding step
looked_speaks s number outcome = always_speaks IsForLooker _ outcome (by _) where
  by : (live : Bool) → IsForLooker (cond live (answer.NotYet number) (answer.Ended number))
  by true = tt
  by false = tt

pub for_looker : (number : ℕ) (a : Answer) → MayAnswer (event.Look number) a → IsForLooker a
for_looker number a h = may IsForLooker (event.Look number) a
    (λ s latest outcome. looked_speaks s number outcome) h

-- ---- events

fetched_speaks : (s : State) (cursor : ℕ) (filter : Filter) (outcome : Outcome)
    → Speaks IsForListener (step s (event.Fetch cursor filter) outcome)
unfolding step
fetched_speaks s cursor filter well = tt
fetched_speaks s cursor filter (keeper_failed rise) = tt
fetched_speaks s cursor filter no_memory = tt

pub for_listener : (cursor : ℕ) (filter : Filter) (a : Answer) → MayAnswer (event.Fetch cursor filter) a
    → IsForListener a
for_listener cursor filter a h = may IsForListener (event.Fetch cursor filter) a
    (λ s latest outcome. fetched_speaks s cursor filter outcome) h

-- ---- calls that are asked for

handed_speaks : (s : State) (o : Operation Task) (moment : ℕ) (calls : List HostCall)
    → IsForTaker (handed_out s o moment calls).answer
handed_speaks s o moment [] = tt
handed_speaks s o moment (call ∷ rest) = tt

taken_speaks : (s : State) (moment : ℕ) (first : Option (Operation Task)) → IsForTaker (taken s moment first).answer
taken_speaks s moment (Some o) = handed_speaks s o moment o.work.calls
taken_speaks s moment None = by s.closed where
  by : (closed : Bool) → IsForTaker (cond closed answer.Closed answer.NoJob)
  by true = tt
  by false = tt

take_speaks : (s : State) (moment : ℕ) (outcome : Outcome) → Speaks IsForTaker (step s (event.Take moment) outcome)
unfolding step
take_speaks s moment outcome =
    always_speaks IsForTaker (taken s moment (first_pending s)) outcome (taken_speaks s moment (first_pending s))

pub for_taker : (moment : ℕ) (a : Answer) → MayAnswer (event.Take moment) a → IsForTaker a
for_taker moment a h = may IsForTaker (event.Take moment) a
    (λ s latest outcome. take_speaks s (max latest moment) outcome) h

-- ---- reports

stray_speaks : (s : State) (number : ℕ) (outcome : Outcome) → Speaks IsForReporter (stray s number outcome)
stray_speaks s number well = tt
stray_speaks s number (keeper_failed rise) = tt
stray_speaks s number no_memory = tt

committed_speaks : (s : State) (o : Operation Task) (moment : ℕ) (outcome : Outcome) (cs : List RowChange)
    → Speaks IsForReporter (committed s o moment outcome cs)
committed_speaks s o moment well cs = tt
committed_speaks s o moment (keeper_failed rise) [] = tt
committed_speaks s o moment (keeper_failed rise) (c ∷ cs) = tt
committed_speaks s o moment no_memory cs = tt

call_done_speaks : (s : State) (o : Operation Task) (moment : ℕ) (outcome : Outcome) (calls : List HostCall)
    → Speaks IsForReporter (call_done s o moment outcome calls)
call_done_speaks s o moment well (call ∷ rest) = tt
call_done_speaks s o moment (keeper_failed rise) (call ∷ rest) = tt
call_done_speaks s o moment no_memory (call ∷ rest) = tt
call_done_speaks s o moment well [] = committed_speaks s o moment well (success_changes s o.work)
call_done_speaks s o moment (keeper_failed rise) [] =
    committed_speaks s o moment (keeper_failed rise) (success_changes s o.work)
call_done_speaks s o moment no_memory [] = committed_speaks s o moment no_memory (success_changes s o.work)

call_failed_speaks : (s : State) (o : Operation Task) (moment : ℕ) (outcome : Outcome) (why : OpFault)
    → Speaks IsForReporter (call_failed s o moment outcome why)
call_failed_speaks s o moment well why = tt
call_failed_speaks s o moment (keeper_failed rise) why = tt
call_failed_speaks s o moment no_memory why = tt

running_speaks : (s : State) (o : Operation Task) (r : Report) (moment : ℕ) (outcome : Outcome)
    → Speaks IsForReporter (while_running s o r moment outcome)
running_speaks s o report.Done moment outcome = call_done_speaks s o moment outcome o.work.calls
running_speaks s o (report.Failed rise) moment outcome = call_failed_speaks s o moment outcome _
running_speaks s o report.NoMemory moment outcome = call_failed_speaks s o moment outcome _

cancelling_speaks : (s : State) (o : Operation Task) (moment : ℕ) (outcome : Outcome) (undo : Option HostCall)
    → Speaks IsForReporter (while_cancelling s o moment outcome undo)
cancelling_speaks s o moment well (Some call) = tt
cancelling_speaks s o moment well None = tt
cancelling_speaks s o moment (keeper_failed rise) undo = tt
cancelling_speaks s o moment no_memory undo = tt

reported_speaks : (s : State) (o : Operation Task) (r : Report) (moment : ℕ) (outcome : Outcome) (now : Status)
    → Speaks IsForReporter (reported s o r moment outcome now)
reported_speaks s o r moment outcome status.Running = running_speaks s o r moment outcome
reported_speaks s o r moment outcome status.Cancelling = cancelling_speaks s o moment outcome o.work.undo
reported_speaks s o r moment outcome status.Pending = stray_speaks s o.number outcome
reported_speaks s o r moment outcome status.Success = stray_speaks s o.number outcome
reported_speaks s o r moment outcome status.Failure = stray_speaks s o.number outcome
reported_speaks s o r moment outcome status.Cancelled = stray_speaks s o.number outcome

done_speaks : (s : State) (number : ℕ) (r : Report) (moment : ℕ) (outcome : Outcome) (at : Option (Operation Task))
    → Speaks IsForReporter (done s number r moment outcome at)
done_speaks s number r moment outcome (Some o) = reported_speaks s o r moment outcome o.status
done_speaks s number r moment outcome None = stray_speaks s number outcome

report_speaks : (s : State) (number : ℕ) (r : Report) (moment : ℕ) (outcome : Outcome)
    → Speaks IsForReporter (step s (event.Done number r moment) outcome)
unfolding step
report_speaks s number r moment outcome = done_speaks s number r moment outcome (live_at s.operations number)

pub for_reporter : (number : ℕ) (r : Report) (moment : ℕ) (a : Answer) → MayAnswer (event.Done number r moment) a
    → IsForReporter a
for_reporter number r moment a h = may IsForReporter (event.Done number r moment) a
    (λ s latest outcome. report_speaks s number r (max latest moment) outcome) h
