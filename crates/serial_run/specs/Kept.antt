-- What a keeper tells after each of its calls in a run.
use Rattle.std.specs.Prelude.{◌≡◌, ◌++◌, ℕ, List, [], ◌∷◌, map, Option, Some, None}
use Rattle.std.specs.List.{flat_map}
use Rattle.size_values.specs.declared.entry.Entry.{Entry}
use Rattle.record_keeper.specs.Entries.{after_changes}
use Rattle.record_keeper.specs.Store.{Store}
use Rattle.records.specs.declared.replies.Reply.TheVariants as reply
use Rattle.row_machine.specs.declared.changes.RowChange.{RowChange}
use Rattle.row_machine.specs.declared.events.Answer.{Answer}
use Rattle.row_machine.specs.declared.events.Answer.TheVariants as answer
use Rattle.row_machine.specs.declared.events.Event.{Event}
use Rattle.row_machine.specs.declared.events.Event.TheVariants as event
use Rattle.row_machine.specs.machine.State.{State}
use Rattle.row_machine.specs.machine.Step.{Outcome, well, keeper_failed, no_memory}
use Rattle.row_machine.specs.opening.Records.{records_of}
use Rattle.rest_json.specs.declared.terms.Terms.{Terms}
use Rattle.machine_laws.specs.Entries.{entry_changes}
use Rattle.serial_steps.specs.core_turns.specs.Turns.{Turns, changes_by}
use Rattle.serial_steps.specs.Steps.{SerialWorld, Step, took, reported}
use Rattle.command_words.specs.declared.run_words.Pace.{Pace}
use Rattle.serial_run.specs.Exchanges.{Comes, Exchange, Held, LeadTo}

-- ---- the events of a run

-- the moment of an event; those that serve no run have none
abbrev pub moment_of : Event → Option ℕ
moment_of (event.Ask command moment) = Some moment
moment_of (event.Take moment) = Some moment
moment_of (event.Done number report moment) = Some moment
moment_of other = None

-- the moment of a step of the worker, and how the outside fared with it
abbrev pub step_at : Step → ℕ × Outcome
step_at (took moment) = (moment, well)
step_at (reported report moment outcome) = (moment, outcome)

abbrev pub asked_at : Option ℕ → Outcome → List (ℕ × Outcome)
asked_at None outcome = []
asked_at (Some moment) outcome = (moment, outcome) ∷ []

abbrev pub held_at : Option Held → List (ℕ × Outcome)
held_at None = []
held_at (Some held) = map step_at held.steps ++ (held.moment, held.outcome) ∷ []

-- The events of an exchange, in their order: its command, if one was asked, what was done while the answer was held
-- back, and the steps after the reply. Each has its moment, and how the outside fared with it.
abbrev pub events_at : Exchange → List (ℕ × Outcome)
events_at exchange =
    asked_at exchange.moment exchange.outcome ++ held_at exchange.held ++ map step_at exchange.steps

abbrev pub events_of : List Exchange → List (ℕ × Outcome)
events_of exchanges = flat_map events_at exchanges

-- ---- one event

-- entries with the changes of an event where all was well, and else without them
abbrev pub with_or_without : Outcome → List RowChange → List Entry → List Entry
with_or_without well changes entries = after_changes (entry_changes changes) entries
with_or_without (keeper_failed rise) changes entries = entries
with_or_without no_memory changes entries = entries

-- An event came to the server at this moment. The keeper was called once for its changes, and not at all where it has
-- none. What it told before are the records of the rows before, and what it tells now are the records of the rows now:
-- those before with the changes where all was well, and else without them. A change that was answered with success is
-- among them.
pub record Keeps (state : State) (store : Store) (moment : ℕ) (outcome : Outcome) (later : State) (store' : Store)
    : Type 0 where
  pub came : Event
  pub answered : Answer
  pub at : moment_of came ≡ Some moment
  pub turn : Turns state store came outcome answered later store'
  pub told : store.contents ≡ Some (records_of state)
  pub tells : store'.contents ≡ Some (records_of later)
  pub records : records_of later ≡ with_or_without outcome (changes_by state came) (records_of state)
  pub granted : answered ≡ answer.Reply reply.Empty → outcome ≡ well

-- ---- a run

-- events came to the server one after the other
abbrev pub KeepsAll : State → Store → List (ℕ × Outcome) → State → Store → Type 0
KeepsAll state store [] later store' = (later ≡ state) × (store' ≡ store)
KeepsAll state store (event ∷ events) later store' =
    (next : State) × (between : Store) × Keeps state store event.0 event.1 next between
    × KeepsAll next between events later store'

-- Whatever requests a run answered, from a moment on at which its keeper tells the records of the rows: after each call
-- of the keeper it tells the records of the rows after all changes and operations so far, with the one in progress or
-- without it, and after each change that was answered with success with it.
abbrev pub AfterEachCall : Type 0
AfterEachCall = (terms : Terms) (follows : Pace) (world : SerialWorld) (exchanges : List Exchange) (later : SerialWorld) →
    LeadTo terms follows world exchanges later → world.store.contents ≡ Some (records_of world.serial.state) →
    KeepsAll world.serial.state world.store (events_of exchanges) later.serial.state later.store

-- the same of a request that came to its reply, whose reply may not have been written
abbrev pub AfterEachCallOfOne : Type 0
AfterEachCallOfOne = (terms : Terms) (world : SerialWorld) (exchange : Exchange) (later : SerialWorld) →
    Comes terms world exchange later → world.store.contents ≡ Some (records_of world.serial.state) →
    KeepsAll world.serial.state world.store (asked_at exchange.moment exchange.outcome ++ held_at exchange.held)
    later.serial.state later.store
