-- What the notices of a state are to its steps: a step tells after what was told before, and nothing else depends on
-- them.
use Rattle.std.specs.Prelude.{◌≡◌, List, Some}
use Rattle.records.specs.declared.notices.Untold.{Untold}
use Rattle.row_machine.specs.declared.events.Answer.{Answer}
use Rattle.row_machine.specs.declared.events.Event.{Event}
use Rattle.row_machine.specs.declared.events.Event.TheVariants as event
use Rattle.row_machine.specs.machine.Accept.{and_then}
use Rattle.row_machine.specs.machine.State.{State}
use Rattle.row_machine.specs.machine.Step.{Outcome, step}
use Rattle.row_machine.specs.shown.Notices.{telling}
use Rattle.event_hub.specs.Recent.{Recent, all_pushed, no_notices, recent_of, with_recent}

-- any event but that of a listener, who is answered with notices
abbrev pub IsNoFetch : Event → Type 0
IsNoFetch (event.Fetch cursor filter) = ⊥
IsNoFetch other = Unit {0}

-- no notice was made
abbrev pub HasNoNotices : State → Type 0
HasNoNotices state = recent_of state ≡ no_notices

-- What a step tells of a state in which nothing was told, it tells of the same state with any notices, after them; and
-- it is answered the same, and leaves the same beside.
abbrev pub TellsAfter : Type 0
TellsAfter = (state later : State) (event : Event) (outcome : Outcome) (answer : Answer) (untold : List Untold)
    → IsNoFetch event → HasNoNotices state → HasNoNotices later
    → step state event outcome ≡ Some (and_then answer (telling untold later))
    → (recent : Recent)
    → step (with_recent recent state) event outcome
    ≡ Some (and_then answer (with_recent (all_pushed untold recent) later))
