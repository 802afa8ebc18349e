-- The moments of turns, which never fall.
use Rattle.std.specs.Prelude.{ℕ, max}
use Rattle.row_machine.specs.declared.events.Event.{Event}
use Rattle.row_machine.specs.declared.events.Event.TheVariants as event

-- the latest moment of turns, where it was this one before an event
abbrev pub latest_after : ℕ → Event → ℕ
latest_after latest (event.Ask command moment) = max latest moment
latest_after latest (event.Take moment) = max latest moment
latest_after latest (event.Done number report moment) = max latest moment
latest_after latest other = latest

-- the event with this moment in the place of its own, if it has one
abbrev pub at_moment : ℕ → Event → Event
at_moment moment (event.Ask command read) = event.Ask command moment
at_moment moment (event.Take read) = event.Take moment
at_moment moment (event.Done number report read) = event.Done number report moment
at_moment moment other = other

-- The event as it is taken where turns came to this moment before: at its own moment, or at theirs where that is later.
abbrev pub no_earlier : ℕ → Event → Event
no_earlier latest event = at_moment (latest_after latest event) event
