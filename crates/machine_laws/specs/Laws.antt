-- Laws of steps and of runs, as their public functions claim them.
use Rattle.std.specs.Prelude.{◌≡◌, List, Some}
use Rattle.row_machine.specs.declared.events.Event.{Event}
use Rattle.row_machine.specs.machine.State.{State}
use Rattle.row_machine.specs.machine.Accept.{After}
use Rattle.row_machine.specs.machine.Step.{Outcome, step}
use Rattle.row_machine.specs.machine.Runs.{Ran, run}
use Rattle.row_machine.specs.opening.Opening.{with_rows, first_rows}
use Rattle.row_machine.specs.facts.Whole.{IsWhole}
use Rattle.machine_laws.specs.Possible.{IsPossible, ArePossible}

-- a possible event, with any outcome that it can have, leaves a whole state whole
abbrev pub StepKeeps : Type 0
StepKeeps = (state : State) (event : Event) (outcome : Outcome) (after : After) →
    IsWhole state → IsPossible event → step state event outcome ≡ Some after → IsWhole after.state

-- and so does each list of possible events, with any outcomes that they can have
abbrev pub RunKeeps : Type 0
RunKeeps = (state : State) (events : List (Event × Outcome)) (ran : Ran) → IsWhole state → ArePossible events
    → run state events ≡ Some ran → IsWhole ran.state

-- from a new server on
abbrev pub NewRunKeeps : Type 0
NewRunKeeps = (events : List (Event × Outcome)) (ran : Ran) → ArePossible events
    → run (with_rows first_rows) events ≡ Some ran → IsWhole ran.state
