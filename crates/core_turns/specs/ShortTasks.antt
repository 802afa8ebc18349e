-- The texts of background operations are no longer than a name.
use Rattle.std.specs.Prelude.{◌≡◌, ◌≤◌, Some, length}
use Rattle.plain_lists.specs.Members.{Each}
use Rattle.row_machine.specs.declared.events.Event.{Event}
use Rattle.row_machine.specs.machine.Accept.{After}
use Rattle.row_machine.specs.machine.State.{State}
use Rattle.row_machine.specs.machine.Step.{Outcome, step}
use Rattle.row_machine.specs.machine.Task.{Task}
use Rattle.row_machine.specs.facts.Whole.{IsWhole}
use Rattle.machine_laws.specs.Possible.{IsPossible}
use Rattle.event_hub.specs.Short.{most_bytes}

-- its project, and its object
pub record IsShortTask (task : Task) : Type 0 where
  pub project : length task.project ≤ most_bytes
  pub pool : length task.target.pool ≤ most_bytes
  pub instance : length task.target.instance ≤ most_bytes
  pub name : length task.target.name ≤ most_bytes

-- those of all operations that are kept
pub record AreShort (state : State) : Type 0 where
  pub live : Each (λ operation. IsShortTask operation.work) state.operations.live
  pub ended : Each (λ operation. IsShortTask operation.work) state.operations.ended

-- so it stays
abbrev pub StayShort : Type 0
StayShort = (state : State) (event : Event) (outcome : Outcome) (after : After) → IsWhole state → IsPossible event
    → AreShort state → step state event outcome ≡ Some after → AreShort after.state
