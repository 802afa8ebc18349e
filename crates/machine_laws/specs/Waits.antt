-- A worker that serves alone while a client's wait is held: after at most four steps for each live operation all have
-- ended.
use Rattle.std.specs.Prelude.{◌≡◌, ◌≢◌, ◌⊎◌, ℕ, ◌*◌, ◌<◌, ◌≤◌, List, [], ◌∷◌, length, Option, Some, None}
use Rattle.std.specs.Prelude.{option_and_then}
use Rattle.std.specs.Option.{option_map}
use Rattle.plain_lists.specs.Members.{Each}
use Rattle.size_values.specs.Moments.{moment_limit}
use Rattle.host_model.specs.declared.report.Report.{Report}
use Rattle.operations.specs.declared.operation.Operation.{Operation}
use Rattle.operations.specs.declared.status.Status.TheVariants as status
use Rattle.operations.specs.OperationTable.{live_at}
use Rattle.row_machine.specs.declared.events.Event.{Event}
use Rattle.row_machine.specs.declared.events.Event.TheVariants as event
use Rattle.row_machine.specs.declared.events.Answer.{Answer}
use Rattle.row_machine.specs.declared.events.Answer.TheVariants as answer
use Rattle.row_machine.specs.machine.Task.{Task}
use Rattle.row_machine.specs.machine.State.{State}
use Rattle.row_machine.specs.machine.Accept.{After}
use Rattle.row_machine.specs.machine.Step.{Outcome, step}
use Rattle.row_machine.specs.facts.Whole.{IsWhole}

-- ---- one step

-- what the outside does with a step: the moment, what the host reports of the call, and what becomes of the store and
-- of memory
pub record Round : Type 0 where
  pub moment : ℕ
  pub report : Report
  pub outcome : Outcome

-- a worker asks for a call where it has none in hand, and else makes the call that it has and reports of it
abbrev pub event_of : Option ℕ → Round → Event
event_of None round = event.Take round.moment
event_of (Some number) round = event.Done number round.report round.moment

-- the operation whose call it then has in hand
abbrev pub hand_of : Answer → Option ℕ
hand_of (answer.Job number call) = Some number
hand_of other = None

-- a state, and the operation whose call the worker has in hand
pub record Served : Type 0 where
  pub state : State
  pub hand : Option ℕ

-- after one step; none where the outcome is not possible
abbrev pub served : State → Option ℕ → Round → Option Served
served state hand round = option_map (λ (after : After). record { state = after.state; hand = hand_of after.answer })
    (step state (event_of hand round) round.outcome)

-- after several
abbrev pub serves : State → Option ℕ → List Round → Option Served
serves state hand [] = Some (record { state = state; hand = hand })
serves state hand (round ∷ rounds) =
    option_and_then (λ next. serves next.state next.hand rounds) (served state hand round)

-- ---- the worker is alone

-- all live operations wait but for the one whose call the worker has in hand, and that one does not wait
pub record IsAlone (state : State) (hand : Option ℕ) : Type 0 where
  pub others : Each (λ operation. (operation.status ≡ status.Pending) ⊎ (hand ≡ Some operation.number))
      state.operations.live
  pub own : (number : ℕ) → hand ≡ Some number
      → (operation : Operation Task)
      × ((live_at state.operations number ≡ Some operation) × (operation.status ≢ status.Pending))

-- After four steps for each live operation none is live, whatever the host reports and however the store fails.
abbrev pub WaitsEnd : Type 0
WaitsEnd = (state : State) (hand : Option ℕ) (rounds : List Round) (after : Served) →
    IsWhole state → IsAlone state hand → Each (λ round. round.moment < moment_limit) rounds
    → 4 * length state.operations.live ≤ length rounds →
    serves state hand rounds ≡ Some after → after.state.operations.live ≡ []

-- and these are at most 4,096
abbrev pub FewSteps : Type 0
FewSteps = (state : State) → IsWhole state → 4 * length state.operations.live ≤ 4096
