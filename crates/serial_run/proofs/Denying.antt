-- Where the keeper failed or memory was refused, no step answers that a change was made.
use Rattle.std.proofs.Common.{◌≡◌, ◌≢◌, ℕ, List, [], ◌∷◌, Option, Some, None, refl, subst}
use Rattle.host_model.specs.declared.call.HostCall.{HostCall}
use Rattle.host_model.specs.declared.report.Report.{Report}
use Rattle.host_model.specs.declared.report.Report.TheVariants as report
use Rattle.row_machine.specs.Words.{Operation, OpFault, Status, Status as status, live_at}
use Rattle.records.specs.declared.commands.Command.{Command}
use Rattle.records.specs.declared.refusals.Refusal.{Refusal}
use Rattle.records.specs.declared.replies.Reply.TheVariants as reply
use Rattle.row_machine.specs.declared.changes.RowChange.{RowChange}
use Rattle.row_machine.specs.declared.events.Answer.{Answer}
use Rattle.row_machine.specs.declared.events.Answer.TheVariants as answer
use Rattle.row_machine.specs.declared.events.Event.{Event}
use Rattle.row_machine.specs.declared.events.Event.TheVariants as event
use Rattle.row_machine.specs.machine.State.{State}
use Rattle.row_machine.specs.machine.Task.{Task}
use Rattle.row_machine.specs.machine.Operations.{success_changes}
use Rattle.row_machine.specs.machine.Plans.{Plan, nothing, changes, starts, plan_of}
use Rattle.row_machine.specs.machine.Rules.{broken}
use Rattle.row_machine.specs.machine.Accept.{After, and_then}
use Rattle.row_machine.specs.machine.Step.{Outcome, well, keeper_failed, no_memory, step, after_command, always}
use Rattle.row_machine.specs.machine.Step.{call_done, call_failed, committed, done, reported, stray, unavailable}
use Rattle.row_machine.specs.machine.Step.{while_cancelling, while_running}
use Rattle.rest_answers.proofs.ForClients.{Speaks}

-- it is another answer than that of a change that was made
abbrev pub Denies : Answer → Type 0
Denies an_answer = an_answer ≢ answer.Reply reply.Empty

-- the keeper failed, or memory was refused
abbrev pub IsFault : Outcome → Type 0
IsFault well = ⊥
IsFault (keeper_failed rise) = Unit {0}
IsFault no_memory = Unit {0}

-- ---- commands

unavailable_denies : (s : State) (p : Plan) → Speaks Denies (unavailable s p)
unavailable_denies s nothing = tt
unavailable_denies s (changes cs) = λ e. cc
unavailable_denies s (starts task) = tt

asked_denies : (s : State) (c : Command) (moment : ℕ) (o : Outcome) (r : Option Refusal) → IsFault o
    → Speaks Denies (after_command s c moment o r)
asked_denies s c moment well r fault = absurd fault
asked_denies s c moment (keeper_failed rise) (Some refusal) fault = tt
asked_denies s c moment (keeper_failed rise) None fault = unavailable_denies s (plan_of s c moment)
asked_denies s c moment no_memory None fault = λ e. cc
asked_denies s c moment no_memory (Some refusal) fault = λ e. cc

always_denies : (after : After) (o : Outcome) → IsFault o → Speaks Denies (always after o)
always_denies after well fault = absurd fault
always_denies after (keeper_failed rise) fault = tt
always_denies after no_memory fault = tt

-- ---- reports

stray_denies : (s : State) (number : ℕ) (o : Outcome) → IsFault o → Speaks Denies (stray s number o)
stray_denies s number well fault = absurd fault
stray_denies s number (keeper_failed rise) fault = tt
stray_denies s number no_memory fault = tt

committed_denies : (s : State) (p : Operation Task) (moment : ℕ) (o : Outcome) (cs : List RowChange) → IsFault o
    → Speaks Denies (committed s p moment o cs)
committed_denies s p moment well cs fault = absurd fault
committed_denies s p moment (keeper_failed rise) [] fault = tt
committed_denies s p moment (keeper_failed rise) (c ∷ cs) fault = λ e. cc
committed_denies s p moment no_memory [] fault = λ e. cc
committed_denies s p moment no_memory (c ∷ cs) fault = λ e. cc

call_done_denies : (s : State) (p : Operation Task) (moment : ℕ) (o : Outcome) (calls : List HostCall) → IsFault o
    → Speaks Denies (call_done s p moment o calls)
call_done_denies s p moment well calls fault = absurd fault
call_done_denies s p moment (keeper_failed rise) (call ∷ rest) fault = tt
call_done_denies s p moment no_memory (call ∷ rest) fault = tt
call_done_denies s p moment (keeper_failed rise) [] fault =
    committed_denies s p moment (keeper_failed rise) (success_changes s p.work) tt
call_done_denies s p moment no_memory [] fault = committed_denies s p moment no_memory (success_changes s p.work) tt

call_failed_denies : (s : State) (p : Operation Task) (moment : ℕ) (o : Outcome) (why : OpFault) → IsFault o
    → Speaks Denies (call_failed s p moment o why)
call_failed_denies s p moment well why fault = absurd fault
call_failed_denies s p moment (keeper_failed rise) why fault = tt
call_failed_denies s p moment no_memory why fault = tt

running_denies : (s : State) (p : Operation Task) (r : Report) (moment : ℕ) (o : Outcome) → IsFault o
    → Speaks Denies (while_running s p r moment o)
running_denies s p report.Done moment o fault = call_done_denies s p moment o p.work.calls fault
running_denies s p (report.Failed rise) moment o fault = call_failed_denies s p moment o _ fault
running_denies s p report.NoMemory moment o fault = call_failed_denies s p moment o _ fault

cancelling_denies : (s : State) (p : Operation Task) (moment : ℕ) (o : Outcome) (undo : Option HostCall) → IsFault o
    → Speaks Denies (while_cancelling s p moment o undo)
cancelling_denies s p moment well undo fault = absurd fault
cancelling_denies s p moment (keeper_failed rise) None fault = tt
cancelling_denies s p moment (keeper_failed rise) (Some call) fault = tt
cancelling_denies s p moment no_memory None fault = tt
cancelling_denies s p moment no_memory (Some call) fault = tt

reported_denies : (s : State) (p : Operation Task) (r : Report) (moment : ℕ) (o : Outcome) (now : Status) → IsFault o
    → Speaks Denies (reported s p r moment o now)
reported_denies s p r moment o status.Running fault = running_denies s p r moment o fault
reported_denies s p r moment o status.Cancelling fault = cancelling_denies s p moment o p.work.undo fault
reported_denies s p r moment o status.Pending fault = stray_denies s p.number o fault
reported_denies s p r moment o status.Success fault = stray_denies s p.number o fault
reported_denies s p r moment o status.Failure fault = stray_denies s p.number o fault
reported_denies s p r moment o status.Cancelled fault = stray_denies s p.number o fault

done_denies : (s : State) (number : ℕ) (r : Report) (moment : ℕ) (o : Outcome) (at : Option (Operation Task)) → IsFault o
    → Speaks Denies (done s number r moment o at)
done_denies s number r moment o (Some p) fault = reported_denies s p r moment o p.status fault
done_denies s number r moment o None fault = stray_denies s number o fault

-- ---- every event

step_denies : (s : State) (e : Event) (o : Outcome) → IsFault o → Speaks Denies (step s e o)
unfolding step
step_denies s (event.Ask c moment) o fault = asked_denies s c moment o (broken s c moment) fault
step_denies s (event.Look number) o fault = always_denies _ o fault
step_denies s (event.Take moment) o fault = always_denies _ o fault
step_denies s (event.Done number r moment) o fault = done_denies s number r moment o (live_at s.operations number) fault
step_denies s (event.Fetch cursor filter) well fault = absurd fault
step_denies s (event.Fetch cursor filter) (keeper_failed rise) fault = tt
step_denies s (event.Fetch cursor filter) no_memory fault = λ e. cc
step_denies s event.Close o fault = always_denies _ o fault

-- Where a step answers that a change was made, all was well.
pub granted-well : (s : State) (e : Event) (o : Outcome) (a : Answer) (s' : State) → step s e o ≡ Some (and_then a s')
    → a ≡ answer.Reply reply.Empty → o ≡ well
granted-well s e well a s' is granted = refl
granted-well s e (keeper_failed rise) a s' is granted =
    let denies : Denies a = subst (Speaks Denies) is (step_denies s e (keeper_failed rise) tt) in absurd (denies granted)
granted-well s e no_memory a s' is granted =
    let denies : Denies a = subst (Speaks Denies) is (step_denies s e no_memory tt) in absurd (denies granted)
