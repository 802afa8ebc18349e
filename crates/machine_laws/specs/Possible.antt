-- Which events are possible.
use Rattle.std.specs.Prelude.{◌≡◌, ◌<◌, true, List}
use Rattle.plain_lists.specs.Members.{Each}
use Rattle.size_values.specs.Moments.{moment_limit}
use Rattle.records.specs.Forms.{is_formed}
use Rattle.row_machine.specs.declared.events.Event.{Event}
use Rattle.row_machine.specs.declared.events.Event.TheVariants as event
use Rattle.row_machine.specs.machine.Step.{Outcome}

-- A request is one that a client can give, and each moment lies before the year 10000.
abbrev pub IsPossible : Event → Type 0
IsPossible (event.Ask command moment) = (is_formed command ≡ true) × (moment < moment_limit)
IsPossible (event.Look number) = Unit {0}
IsPossible (event.Take moment) = moment < moment_limit
IsPossible (event.Done number report moment) = moment < moment_limit
IsPossible (event.Fetch cursor filter) = Unit {0}
IsPossible event.Close = Unit {0}

-- each event of a list, with whatever outcome
abbrev pub ArePossible : List (Event × Outcome) → Type 0
ArePossible events = Each (λ event. IsPossible event.0) events
