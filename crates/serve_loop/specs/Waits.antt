-- How a command comes to its reply at a gate: it is asked, and the answer of a wait is held back while its operation is
-- live.
use Rattle.std.specs.Prelude.{◌≡◌, ◌+◌, ◌==◌, ◌||◌, ℕ, List, Bool, true, false, Option, Some, None, if◌then◌else◌}
use Rattle.http_front.specs.Clocks.{Readings}
use Rattle.records.specs.declared.commands.Command.{Command}
use Rattle.records.specs.declared.commands.What.{What}
use Rattle.records.specs.declared.commands.What.TheVariants as what
use Rattle.records.specs.declared.replies.Reply.{Reply}
use Rattle.records.specs.declared.replies.Reply.TheVariants as reply
use Rattle.row_machine.specs.declared.events.Answer.{Answer}
use Rattle.row_machine.specs.declared.events.Answer.TheVariants as answer
use Rattle.row_machine.specs.declared.events.Event.{Event}
use Rattle.row_machine.specs.declared.events.Event.TheVariants as event
use Rattle.gates.specs.core_rows.specs.Asked.{answered}
use Rattle.gates.specs.History.{Item, idle, turn}
use Rattle.gates.specs.rest_answers.specs.Asked.{showing}
use Rattle.gates.specs.Moments.{IsRead}
use Rattle.serve_loop.specs.Moments.{IsLate, deadline_by}
use Rattle.serve_loop.specs.declared.wait.Waiting.{Waiting}

-- how often one wait idles at most until the time of an idle is up
abbrev pub most_idles : ℕ
most_idles = 1000000

-- what is kept of a command, if it is a wait
abbrev pub wait_in : List ℕ → What → Option Waiting
wait_in project (what.Wait op timeout) = Some (record { project = project; timeout = timeout })
wait_in project other = None

abbrev pub wait_of : Command → Option Waiting
wait_of command = wait_in command.project command.what

-- Where a command stands: it is not asked yet; its answer is held back, and its operation is to be looked at, with this
-- deadline, after it idled so often; the operation was live, and it is to idle; the wait is over, and the operation is
-- to be asked for; or it has this reply.
pub data CommandStage : Type 0 where
  unasked : CommandStage
  looking : ℕ → Option ℕ → ℕ → CommandStage
  waiting : ℕ → Option ℕ → ℕ → CommandStage
  due : ℕ → CommandStage
  replied : Reply → CommandStage

-- a command at one moment: where it stands, and what its clock tells
pub record CommandWorld : Type 0 where
  pub stage : CommandStage
  pub clock : Readings

abbrev pub command_world : CommandStage → Readings → CommandWorld
command_world stage clock = record { stage = stage; clock = clock }

-- where a command stands that was asked at this moment, after this answer
abbrev pub Brings : What → ℕ → Answer → CommandStage → Type 0
Brings asked moment (answer.Reply a_reply) stage = stage ≡ replied a_reply
Brings asked moment answer.NoMemory stage = stage ≡ replied reply.NoMemory
Brings asked moment (answer.Hold op) stage = stage ≡ looking op (deadline_by moment asked) 0
Brings asked moment other stage = ⊥

-- whether the operation that was looked at is live
abbrev pub Looked : Answer → Bool → Type 0
Looked (answer.NotYet number) live = live ≡ true
Looked (answer.Ended number) live = live ≡ false
Looked other live = ⊥

-- where a wait stands after a look at its operation
abbrev pub Sees : ℕ → Option ℕ → ℕ → Answer → CommandStage → Type 0
Sees op deadline idles (answer.NotYet number) stage = stage ≡ waiting op deadline idles
Sees op deadline idles (answer.Ended number) stage = stage ≡ due op
Sees op deadline idles other stage = ⊥

-- How often a wait idled until the time was up, after one more idle. One that a bell ends does not count: an operation
-- may be looked at any number of times.
abbrev pub idles_after : Bool → ℕ → ℕ
idles_after is_up idles = if is_up then idles + 1 else idles

-- where a wait stands that idled so often: it is over where its deadline is reached, and after the most times
abbrev pub after_idle : ℕ → Option ℕ → ℕ → Bool → CommandStage
after_idle op deadline idles late = if late || idles == most_idles then due op else looking op deadline idles

-- how often it idled, where it goes on
abbrev pub goes_on : Bool → ℕ → Option ℕ
goes_on late idles = if late || idles == most_idles then None else Some idles

-- where a wait stands that goes on after it idled so often, or is over
abbrev pub going_on : ℕ → Option ℕ → Option ℕ → CommandStage
going_on op deadline (Some idles) = looking op deadline idles
going_on op deadline None = due op

-- a command was asked, at the clock's next reading
pub record Asks (command : Command) (world : CommandWorld) (an_event : Event) (answer : Answer) (next : CommandWorld)
    : Type 0 where
  pub moment : ℕ
  pub asks : an_event ≡ event.Ask command moment
  pub clock : IsRead world.clock moment next.clock
  pub brings : Brings command.what moment answer next.stage

-- an operation was looked at
pub record Looks (op : ℕ) (deadline : Option ℕ) (idles : ℕ) (world : CommandWorld) (an_event : Event) (answer : Answer)
    (next : CommandWorld) : Type 0 where
  pub looks : an_event ≡ event.Look op
  pub clock : next.clock ≡ world.clock
  pub sees : Sees op deadline idles answer next.stage

-- it idled once more, and then the deadline was looked at
pub record Idles (op : ℕ) (deadline : Option ℕ) (idles : ℕ) (is_up : Bool) (world next : CommandWorld) : Type 0 where
  pub late : Bool
  pub clock : IsLate deadline world.clock late next.clock
  pub stage : next.stage ≡ after_idle op deadline (idles_after is_up idles) late

-- an operation was asked for in the project of the command, at the clock's next reading
pub record Shows (command : Command) (op : ℕ) (world : CommandWorld) (an_event : Event) (answer : Answer)
    (next : CommandWorld) : Type 0 where
  pub moment : ℕ
  pub reply : Reply
  pub asks : an_event ≡ event.Ask (showing op command) moment
  pub clock : IsRead world.clock moment next.clock
  pub answers : answered reply ≡ answer
  pub stage : next.stage ≡ replied reply

-- what is done for a command where it stands
abbrev pub DoneFor : Command → CommandStage → CommandWorld → Item → CommandWorld → Type 0
DoneFor command unasked world (turn event outcome answer) next = Asks command world event answer next
DoneFor command (looking op deadline idles) world (turn event outcome answer) next =
    Looks op deadline idles world event answer next
DoneFor command (waiting op deadline idles) world (idle is_up events) next = Idles op deadline idles is_up world next
DoneFor command (due op) world (turn event outcome answer) next = Shows command op world event answer next
DoneFor command other world item next = ⊥

-- one thing that is done for a command
abbrev pub ServeBy : Command → CommandWorld → Item → CommandWorld → Type 0
ServeBy command world item next = DoneFor command world.stage world item next
