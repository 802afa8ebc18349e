-- Laws of runs, as their public functions claim them.
use Rattle.std.specs.Prelude.{◌≡◌, ◌≢◌, ℕ, List, [], ◌++◌, map, Option, Some, option_map, option_and_then}
use Rattle.row_machine.specs.Words.{Mem, Distinct, HostCall, Status, kept_at, AreKept, Command, Target, Untold, Refusal}
use Rattle.row_machine.specs.Words.kind
use Rattle.row_machine.specs.Words.reply
use Rattle.operations.specs.declared.operation.Operation.{Operation}
use Rattle.row_machine.specs.declared.events.Event.{Event}
use Rattle.row_machine.specs.declared.events.Event.TheVariants as event
use Rattle.row_machine.specs.declared.events.Answer.TheVariants as answer
use Rattle.row_machine.specs.machine.Task.{Task}
use Rattle.row_machine.specs.machine.State.{State}
use Rattle.row_machine.specs.machine.Accept.{After}
use Rattle.row_machine.specs.machine.Tasks.{deletion_task}
use Rattle.row_machine.specs.machine.Operations.{entered}
use Rattle.row_machine.specs.shown.Notices.{success_notices}
use Rattle.row_machine.specs.machine.Step.{Outcome, step}
use Rattle.row_machine.specs.machine.Runs.{Ran, run}
use Rattle.row_machine.specs.opening.Opening.{with_rows, first_rows}
use Rattle.row_machine.specs.facts.Whole.{IsWhole}

-- no event at all: no answers, no ends, and the state as it is
abbrev pub EmptyRunStays : Type 0
EmptyRunStays = (state : State) → run state [] ≡ Some (record { answers = []; ends = []; state = state })

-- a run, and another one from the state that it leaves
abbrev pub joined : Ran → Ran → Ran
joined first second = record {
  answers = first.answers ++ second.answers;
  ends = first.ends ++ second.ends;
  state = second.state;
}

-- the run of two lists of events is the run of the first and then of the second
abbrev pub RunsJoin : Type 0
RunsJoin = (state : State) (events more : List (Event × Outcome)) →
    run state (events ++ more)
    ≡ option_and_then (λ first. option_map (joined first) (run first.state more)) (run state events)

-- a request that is refused leaves the state
abbrev pub RefusedStays : Type 0
RefusedStays =
    (state : State) (command : Command) (moment : ℕ) (outcome : Outcome) (after : After) (refusal : Refusal) →
    step state (event.Ask command moment) outcome ≡ Some after → after.answer ≡ answer.Reply (reply.Refused refusal)
    → after.state ≡ state

-- an operation that has ended is the same in each later state that keeps it
abbrev pub EndedStays : Type 0
EndedStays = (state : State) (events : List (Event × Outcome)) (ran : Ran) (operation later : Operation Task) →
    AreKept state.operations → run state events ≡ Some ran → Mem operation state.operations.ended
    → kept_at ran.state.operations operation.number ≡ Some later → later ≡ operation

-- no operation ends twice
abbrev pub EndsOnce : Type 0
EndsOnce = (state : State) (events : List (Event × Outcome)) (ran : Ran) →
    AreKept state.operations → run state events ≡ Some ran → Distinct (λ (end : ℕ × Status). end.0) ran.ends

-- a server that is opened without entries is in a state in which all facts hold
abbrev pub NewIsWhole : Type 0
NewIsWhole = IsWhole (with_rows first_rows)

-- an operation that deletes what is no instance leaves no state in which all facts hold
abbrev pub DeletesInstances : Type 0
DeletesInstances = (state : State) (project : List ℕ) (of : Target) (moment : ℕ) →
    of.kind ≢ kind.Instance → IsWhole (entered state (deletion_task project of) moment) → ⊥

-- a notice of another moment
abbrev pub at_moment : ℕ → Untold → Untold
at_moment moment notice = record notice { moment = moment }

-- What the success of an operation tells is fixed when the operation is entered, but for the moment: so it can be made
-- then, beside the operation, and no call that is handed out or done changes it.
abbrev pub SuccessIsFixed : Type 0
SuccessIsFixed = (task : Task) (calls : List HostCall) (undo : Option HostCall) (done moment : ℕ) →
    success_notices (record task { calls = calls; undo = undo; done = done }) moment
    ≡ map (at_moment moment) (success_notices task 0)
