-- Requests one after the other, each with its reply, and the steps that the worker makes between them: while the answer
-- of a wait is held back, and after each reply.
use Rattle.std.specs.Prelude.{◌≡◌, ◌≢◌, ◌≤◌, ◌⊎◌, ◌+◌, ◌++◌, ◌<◌, ℕ, List, [], ◌∷◌, length, Option, Some, None}
use Rattle.std.specs.Prelude.{IfSome}
use Rattle.std.specs.Prelude.{Result, Ok, Err}
use Rattle.std.specs.List.{flat_map, sum_by}
use Rattle.std.specs.Option.{option_to_list}
use Rattle.size_values.specs.Moments.{moment_limit}
use Rattle.http_heads.specs.declared.request.Request.{Request}
use Rattle.http_front.specs.Clocks.{Readings, Reads}
use Rattle.records.specs.declared.commands.Command.{Command}
use Rattle.records.specs.declared.replies.Reply.{Reply}
use Rattle.row_machine.specs.declared.changes.RowChange.{RowChange}
use Rattle.row_machine.specs.declared.events.Answer.{Answer}
use Rattle.row_machine.specs.declared.events.Answer.TheVariants as answer
use Rattle.row_machine.specs.declared.events.Event.TheVariants as event
use Rattle.row_machine.specs.machine.State.{State}
use Rattle.row_machine.specs.machine.Accept.{After, and_then}
use Rattle.row_machine.specs.machine.Step.{Outcome, well, keeper_failed, no_memory, step}
use Rattle.rest_json.specs.declared.terms.Terms.{Terms}
use Rattle.start_faults.specs.core_reports.specs.Stores.{IsCaused, KeepsRecords, Stores}
use Rattle.start_faults.specs.core_rows.specs.Asked.{answered, changes_of}
use Rattle.serial_steps.specs.Steps.{SerialWorld, Step, StepsWhile, Finishes, WaitsFor, most_steps}
use Rattle.serial_steps.specs.Counts.{moments_in, failed_commits, keeper_failures_in, host_failures_in}
use Rattle.rest_answers.specs.Asked.{showing}
use Rattle.rest_answers.specs.Texts.{printed}
use Rattle.rest_routes.specs.Commands.{command_of}
use Rattle.command_words.specs.declared.run_words.Pace.{Pace}
use Rattle.command_words.specs.declared.run_words.Pace.TheVariants as pace

-- The answer of a wait that was held back: the steps that were made until the operation had ended, and then the moment
-- at which the operation was asked for, and how the outside fared with that.
pub record Held : Type 0 where
  pub steps : List Step
  pub moment : ℕ
  pub outcome : Outcome

-- A request that was taken, the moment at which its command was asked, how the outside fared with it, what was done
-- while its answer was held back, if it was, its reply, and the steps that were made after the reply. There is no
-- moment where no command was asked.
pub record Exchange : Type 0 where
  pub request : Request
  pub moment : Option ℕ
  pub outcome : Outcome
  pub held : Option Held
  pub reply : Reply
  pub steps : List Step

-- ---- what a request asks for

-- a request that was read as this reply asks for no command: the keeper is not called, and nothing changes
abbrev pub read_as : Reply → State → Outcome → Option After
read_as said state well = Some (and_then (answered said) state)
read_as said state (keeper_failed rise) = None
read_as said state no_memory = Some (and_then answer.NoMemory state)

-- memory was refused before the command of a request was known: nothing changes
abbrev pub unasked : State → Outcome → Option After
unasked state well = None
unasked state (keeper_failed rise) = None
unasked state no_memory = Some (and_then answer.NoMemory state)

-- The command that a request asks for is one turn of the server, at the moment at which it was asked. A request without
-- a moment was read as a reply, as one that is refused by its form, or memory was refused before its command was known;
-- one that was read as a reply has no moment. None where the outcome is not possible with it.
abbrev pub carried_out : State → Option ℕ → Outcome → Result Command Reply → Option After
carried_out state (Some moment) outcome (Ok command) = step state (event.Ask command moment) outcome
carried_out state (Some moment) outcome (Err said) = None
carried_out state None outcome (Ok command) = unasked state outcome
carried_out state None outcome (Err said) = read_as said state outcome

-- the changes of rows that a request is to commit: those of the command that was asked, and none where no command was
abbrev pub asked_changes : State → Option ℕ → Result Command Reply → List RowChange
asked_changes state (Some moment) (Ok command) = changes_of state command moment
asked_changes state (Some moment) (Err said) = []
asked_changes state None asked = []

-- The clock was read for a command that was asked at this moment, before the year 10000, or for none it was not read.
pub record AsksAt (moment : Option ℕ) (told told' : Readings) : Type 0 where
  pub read : Reads told (option_to_list moment) told'
  pub early : IfSome moment (λ at. at < moment_limit)

-- What was asked for at one moment was answered so, with an outcome that the keeper's count bears out. Its changes went
-- to the store in one call, and without changes the keeper was not called. The call in hand and the host are as before.
-- Entries that were the records of the rows are so afterwards.
pub record Carries (world : SerialWorld) (asked : Result Command Reply) (moment : Option ℕ) (outcome : Outcome)
    (answer : Answer) (later : SerialWorld)
    : Type 0 where
  pub is : carried_out world.serial.state moment outcome asked ≡ Some (and_then answer later.serial.state)
  pub stored : Stores (asked_changes world.serial.state moment asked) outcome world.store later.store
  pub caused : IsCaused outcome world.store.failures later.store.failures
  pub kept : KeepsRecords world.store.contents world.serial.state later.store.contents later.serial.state
  pub hand : later.serial.hand ≡ world.serial.hand
  pub host : later.host ≡ world.host
  pub clock : AsksAt moment world.clock later.clock

-- ---- one request comes to its reply

-- The command was a wait for an operation that was live, so its answer was held back; steps were made until the
-- operation had ended; and then it was asked for in the same project, and was answered by this reply.
pub record HeldBack (world : SerialWorld) (asked : Result Command Reply) (moment : Option ℕ) (outcome : Outcome)
    (held : Held)
    (reply : Reply)
    (later : SerialWorld) : Type 0 where
  pub command : Command
  pub op : ℕ
  pub waiting : SerialWorld
  pub ended : SerialWorld
  pub asks : asked ≡ Ok command
  pub holds : Carries world asked moment outcome (answer.Hold op) waiting
  pub waits : WaitsFor op waiting held.steps ended
  pub few : length held.steps ≤ most_steps
  pub shows : Carries ended (Ok (showing op command)) (Some held.moment) held.outcome (answered reply) later

-- What was asked for was answered by this reply, at once or after its answer was held back.
abbrev pub IsAnswered : SerialWorld → Result Command Reply → Option ℕ → Outcome → Option Held → Reply → SerialWorld
    → Type 0
IsAnswered world asked moment outcome None reply later = Carries world asked moment outcome (answered reply) later
IsAnswered world asked moment outcome (Some held) reply later = HeldBack world asked moment outcome held reply later

-- a request came to its reply, read on these terms
abbrev pub Comes : Terms → SerialWorld → Exchange → SerialWorld → Type 0
Comes terms world exchange later = IsAnswered world (command_of exchange.request terms)
    exchange.moment exchange.outcome exchange.held exchange.reply later

-- ---- and steps follow

-- So many steps were made at most, each while an operation was live. Fewer were made only where none is live after them:
-- the worker has no call in hand then, and none waits.
pub record MakesUpTo (count : ℕ) (world : SerialWorld) (steps : List Step) (later : SerialWorld) : Type 0 where
  pub made : StepsWhile (λ state. state.operations.live ≢ []) world steps later
  pub few : length steps ≤ count
  pub all : (length steps ≡ count) ⊎ (later.serial.state.operations.live ≡ [])

-- the steps that follow a reply: so many, or all, and in both cases no more once nothing is live
abbrev pub IsPaced : Pace → SerialWorld → List Step → SerialWorld → Type 0
IsPaced (pace.Steps count) world steps later = MakesUpTo count world steps later
IsPaced pace.All world steps later = Finishes world steps later × (length steps ≤ most_steps)

-- a request came to its reply, and the steps of the pace followed
pub record Leads (terms : Terms) (follows : Pace) (world : SerialWorld) (exchange : Exchange) (later : SerialWorld)
    : Type 0 where
  pub replied : SerialWorld
  pub comes : Comes terms world exchange replied
  pub paced : IsPaced follows replied exchange.steps later

-- Exchanges lead from one moment of the server to another: each request comes to its reply, and with the steps after it
-- to the moment at which the next one is taken.
abbrev pub LeadTo : Terms → Pace → SerialWorld → List Exchange → SerialWorld → Type 0
LeadTo terms follows world [] later = world ≡ later
LeadTo terms follows world (exchange ∷ more) later =
    (next : SerialWorld) × Leads terms follows world exchange next × LeadTo terms follows next more later

-- ---- what they read, and what failed in them

-- the moments while an answer was held back: those of the steps, and the one at which the operation was asked for
abbrev pub held_moments : Option Held → List ℕ
held_moments None = []
held_moments (Some held) = moments_in held.steps ++ held.moment ∷ []

-- all moments of an exchange, in their order: one for each command, each call that was asked for and each report
abbrev pub moments_at : Exchange → List ℕ
moments_at exchange = option_to_list exchange.moment ++ held_moments exchange.held ++ moments_in exchange.steps

abbrev pub moments_of : List Exchange → List ℕ
moments_of exchanges = flat_map moments_at exchanges

-- how often the keeper failed: at most once for each command and each report
abbrev pub held_keeper_failures : Option Held → ℕ
held_keeper_failures None = 0
held_keeper_failures (Some held) = keeper_failures_in held.steps + failed_commits held.outcome

abbrev pub keeper_failures_at : Exchange → ℕ
keeper_failures_at exchange =
    failed_commits exchange.outcome + held_keeper_failures exchange.held + keeper_failures_in exchange.steps

abbrev pub keeper_failures_of : List Exchange → ℕ
keeper_failures_of exchanges = sum_by keeper_failures_at exchanges

-- how many calls of the host failed
abbrev pub held_host_failures : Option Held → ℕ
held_host_failures None = 0
held_host_failures (Some held) = host_failures_in held.steps

abbrev pub host_failures_at : Exchange → ℕ
host_failures_at exchange = held_host_failures exchange.held + host_failures_in exchange.steps

abbrev pub host_failures_of : List Exchange → ℕ
host_failures_of exchanges = sum_by host_failures_at exchanges

-- ---- their bytes

-- the bytes of the replies, in their order
abbrev pub printed_replies : Terms → List Exchange → List ℕ
printed_replies terms exchanges = flat_map (λ exchange. printed exchange.reply terms exchange.request) exchanges
