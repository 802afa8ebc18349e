-- History: what was done at a gate, one thing after the other, and how it leads from one moment of the server to
-- another.
use Rattle.std.specs.Prelude.{◌≡◌, ◌<◌, ◌+◌, ◌-◌, ◌^◌, ℕ, Bool, true, false, List, min, Option, Some, None}
use Rattle.std.specs.Prelude.{if◌then◌else◌}
use Rattle.std.specs.List.{sum_by}
use Rattle.size_values.specs.Causes.{RoseBy}
use Rattle.size_values.specs.Moments.{moment_limit}
use Rattle.record_keeper.specs.Store.{Store}
use Rattle.row_machine.specs.declared.events.Answer.{Answer}
use Rattle.row_machine.specs.declared.events.Event.{Event}
use Rattle.row_machine.specs.machine.State.{State}
use Rattle.row_machine.specs.machine.Step.{Outcome}
use Rattle.row_machine.specs.facts.Whole.{IsWhole}
use Rattle.serial_steps.specs.core_reports.specs.Stores.{IsCaused, KeepsRecords}
use Rattle.serial_steps.specs.core_turns.specs.Turns.{Turns}
use Rattle.serial_steps.specs.Counts.{failed_commits}
use Rattle.gates.specs.Chains.{Chain}
use Rattle.gates.specs.Times.{no_earlier}

-- the contents of a server at one moment: its state, and what is seen of its keeper
pub record Contents : Type 0 where
  pub state : State
  pub store : Store

abbrev pub contents_as : State → Store → Contents
contents_as state store = record { state = state; store = store }

-- ---- one event

-- An event with its outcome was answered so, and led from one moment to the next. The keeper's count bears the outcome
-- out, and entries that were the records of the rows are so afterwards.
pub record TurnBy (server : Contents) (event : Event) (outcome : Outcome) (answer : Answer) (later : Contents)
    : Type 0 where
  pub turns : Turns server.state server.store event outcome answer later.state later.store
  pub caused : IsCaused outcome server.store.failures later.store.failures
  pub kept : KeepsRecords server.store.contents server.state later.store.contents later.state

-- an event was taken, whatever it was answered
abbrev pub EventBy : Contents → Event × Outcome → Contents → Type 0
EventBy server event later = (answer : Answer) × TurnBy server event.0 event.1 answer later

-- From some moment whose rows have their facts the server may answer this event so: as it is at its own moment, or at
-- the latest one of the turns before, where that is later.
pub record MayAnswer (event : Event) (answer : Answer) : Type 0 where
  pub from : Contents
  pub to : Contents
  pub latest : ℕ
  pub early : latest < moment_limit
  pub outcome : Outcome
  pub whole : IsWhole from.state
  pub by : TurnBy from (no_earlier latest event) outcome answer to

-- ---- histories

-- What was done at a gate: a turn, with its event, its outcome and its answer; or that it idled, and whether its time
-- was up, with the events that were taken meanwhile and their outcomes.
pub data Item : Type 0 where
  turn : Event → Outcome → Answer → Item
  idle : Bool → List (Event × Outcome) → Item

-- an item leads from one moment to the next
abbrev pub ItemBy : Contents → Item → Contents → Type 0
ItemBy server (turn event outcome answer) later = TurnBy server event outcome answer later
ItemBy server (idle is_up events) later = Chain EventBy events server later

-- The same of a gate: one that shows its server goes on to show it, and one that doesn't never shows it.
abbrev pub ContentsBy : Option Contents → Item → Option Contents → Type 0
ContentsBy None item new = new ≡ None
ContentsBy (Some server) item new = (later : Contents) × (new ≡ Some later) × ItemBy server item later

-- one turn at a gate
pub record GateTurn (old : Option Contents) (event : Event) (answer : Answer) (new : Option Contents) : Type 0 where
  pub outcome : Outcome
  pub by : ContentsBy old (turn event outcome answer) new

-- a gate idled once, and whether its time was up
pub record GateIdle (is_up : Bool) (old new : Option Contents) : Type 0 where
  pub events : List (Event × Outcome)
  pub by : ContentsBy old (idle is_up events) new

-- ---- what a history counts

abbrev pub turn_at : Item → ℕ
turn_at (turn event outcome answer) = 1
turn_at (idle is_up events) = 0

-- an idle counts where its time was up, and not where a bell ended it
abbrev pub idle_at : Item → ℕ
idle_at (turn event outcome answer) = 0
idle_at (idle true events) = 1
idle_at (idle false events) = 0

-- how often the keeper failed
abbrev pub failures_at : Item → ℕ
failures_at (turn event outcome answer) = failed_commits outcome
failures_at (idle is_up events) = sum_by (λ (event : Event × Outcome). failed_commits event.1) events

abbrev pub turns_in : List Item → ℕ
turns_in history = sum_by turn_at history

abbrev pub idles_in : List Item → ℕ
idles_in history = sum_by idle_at history

abbrev pub failures_in : List Item → ℕ
failures_in history = sum_by failures_at history

-- a count stops at its last value
abbrev pub capped : ℕ → ℕ
capped n = min n (2 ^ 64 - 1)

-- how often a gate idled until its time was up, after one more idle
abbrev pub idled_after : Bool → ℕ → ℕ
idled_after is_up idled = if is_up then capped (idled + 1) else idled

-- below its last value, the count rose by this number
abbrev pub Counts : ℕ → ℕ → ℕ → Type 0
Counts n before now = now < 2 ^ 64 - 1 → now ≡ before + n

-- the count of a keeper that is shown rose by this number at least, or stands at its last value
abbrev pub Bears : ℕ → Option Contents → Option Contents → Type 0
Bears n (Some server) (Some later) = RoseBy n server.store.failures later.store.failures
Bears n None new = Unit {0}
Bears n (Some server) None = ⊥
