-- Settings and devices stand in the order of their keys, in requests as the program's types keep them, and so in all
-- rows.
use Rattle.std.specs.Prelude.{◌≡◌, List, ◌++◌, IfSome, Some}
use Rattle.plain_lists.specs.Members.{Each}
use Rattle.config_lists.specs.Changes.{IsChanges}
use Rattle.config_lists.specs.Devices.{IsDevices}
use Rattle.expansion.specs.Layers.{IsLayer}
use Rattle.records.specs.declared.commands.Body.{Body}
use Rattle.records.specs.declared.commands.What.{What}
use Rattle.records.specs.declared.commands.What.TheVariants as what
use Rattle.records.specs.declared.rows.Row.{Row}
use Rattle.records.specs.declared.rows.Row.TheVariants as row
use Rattle.row_machine.specs.declared.events.Event.{Event}
use Rattle.row_machine.specs.declared.events.Event.TheVariants as event
use Rattle.row_machine.specs.machine.State.{State}
use Rattle.row_machine.specs.opening.Records.{rows_of}
use Rattle.row_machine.specs.machine.Expansions.{own_layer, layer_of}
use Rattle.row_machine.specs.machine.Step.{Outcome, step}
use Rattle.row_machine.specs.machine.Accept.{After}
use Rattle.row_machine.specs.facts.Whole.{IsWhole, claims_of}
use Rattle.machine_laws.specs.Possible.{IsPossible}

-- ---- requests

-- the changes of settings and the devices of a body
pub record IsSortedBody (body : Body) : Type 0 where
  pub config : IfSome body.config IsChanges
  pub devices : IfSome body.devices IsDevices

abbrev pub IsSortedRequest : What → Type 0
IsSortedRequest (what.Create of body) = IsSortedBody body
IsSortedRequest (what.Put of body) = IsSortedBody body
IsSortedRequest (what.Patch of body) = IsSortedBody body
IsSortedRequest other = Unit {0}

abbrev pub IsSortedEvent : Event → Type 0
IsSortedEvent (event.Ask command moment) = IsSortedRequest command.what
IsSortedEvent other = Unit {0}

abbrev pub AreSortedEvents : List (Event × Outcome) → Type 0
AreSortedEvents events = Each (λ event. IsSortedEvent event.0) events

-- ---- rows

-- what a profile, an instance or a snapshot has itself
abbrev pub IsSortedRow : Row → Type 0
IsSortedRow (row.Profile profile) = IsLayer (layer_of (Some profile))
IsSortedRow (row.Instance instance) = IsLayer (own_layer instance)
IsSortedRow (row.Snapshot snapshot) = IsLayer (record { config = snapshot.config; devices = snapshot.devices })
IsSortedRow other = Unit {0}

-- rows, and those that live operations would put
abbrev pub AreSortedRows : State → Type 0
AreSortedRows state = Each IsSortedRow (rows_of state ++ claims_of state)

-- each step keeps this
abbrev pub StepsKeepOrder : Type 0
StepsKeepOrder = (state : State) (event : Event) (outcome : Outcome) (after : After) →
    IsWhole state → IsPossible event → IsSortedEvent event → AreSortedRows state → step state event outcome ≡ Some after
    → AreSortedRows after.state
