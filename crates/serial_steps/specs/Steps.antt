-- The steps of the one worker of a serial server. It asks for a call where it has none in hand, and else makes the call
-- that it has on the host and reports of it.
use Rattle.std.specs.Prelude.{◌≡◌, ◌≢◌, ◌<◌, ◌≤◌, ℕ, List, [], ◌∷◌, Option, Some, None, option_map}
use Rattle.size_values.specs.Causes.{Rose}
use Rattle.size_values.specs.Moments.{moment_limit}
use Rattle.host_model.specs.declared.call.HostCall.{HostCall}
use Rattle.host_model.specs.declared.report.Report.{Report}
use Rattle.host_model.specs.declared.report.Report.TheVariants as report
use Rattle.host_model.specs.declared.root.HostRoot.{HostRoot}
use Rattle.host_model.specs.Reports.{roots_after, CarriesCounts}
use Rattle.http_front.specs.Clocks.{Readings, Reads}
use Rattle.operations.specs.OperationTable.{live_at}
use Rattle.record_keeper.specs.Store.{Store}
use Rattle.row_machine.specs.declared.events.Answer.{Answer}
use Rattle.row_machine.specs.declared.events.Answer.TheVariants as answer
use Rattle.row_machine.specs.declared.events.Event.TheVariants as event
use Rattle.row_machine.specs.machine.State.{State}
use Rattle.row_machine.specs.machine.Step.{Outcome, well}
use Rattle.core_turns.specs.core_reports.specs.Stores.{IsCaused, KeepsRecords}
use Rattle.core_turns.specs.Turns.{Turns}

-- the rows and operations of a serial server, and the call that its worker has in hand, with the number of its
-- operation
pub record Serial : Type 0 where
  pub state : State
  pub hand : Option (ℕ × HostCall)

-- this state, and this call in hand
abbrev pub serial : State → Option (ℕ × HostCall) → Serial
serial state hand = record { state = state; hand = hand }

-- the number of the operation whose call is in hand
abbrev pub number_in : Option (ℕ × HostCall) → Option ℕ
number_in hand = option_map (λ call. call.0) hand

-- what is seen of a host at one moment: the roots, where it tells them, and how many calls failed
pub record Hosted : Type 0 where
  pub roots : Option (List HostRoot)
  pub failures : ℕ

-- what these members tell of a host
abbrev pub hosted : {H : Type 0} → (H → Option (List HostRoot)) → (H → ℕ) → H → Hosted
hosted roots failures host = record { roots = roots host; failures = failures host }

-- what a serial server is and works on at one moment: its rows and the call in hand, the store, the host, and what its
-- clock tells of its readings to come
pub record SerialWorld : Type 0 where
  pub serial : Serial
  pub store : Store
  pub host : Hosted
  pub clock : Readings

abbrev pub serial_world : Serial → Store → Hosted → Readings → SerialWorld
serial_world serial store host clock = record { serial = serial; store = store; host = host; clock = clock }

-- ---- one step

-- What a step was. No call was in hand, and at this moment one was asked for; or the call in hand was made on the host,
-- with this report, which the server took at this moment with this outcome.
pub data Step : Type 0 where
  took : ℕ → Step
  reported : Report → ℕ → Outcome → Step

-- the call that an answer puts in the hand of the worker
abbrev pub job_of : Answer → Option (ℕ × HostCall)
job_of (answer.Job number call) = Some (number, call)
job_of other = None

-- a call was asked for, and there was one or none
pub record Takes (world : SerialWorld) (moment : ℕ) (next : SerialWorld) : Type 0 where
  pub answer : Answer
  pub idle : world.serial.hand ≡ None
  pub turn : Turns world.serial.state world.store (event.Take moment) well answer next.serial.state next.store
  pub hand : next.serial.hand ≡ job_of answer
  pub host : next.host ≡ world.host
  pub clock : Reads world.clock (moment ∷ []) next.clock
  pub early : moment < moment_limit
  pub kept : KeepsRecords world.store.contents world.serial.state next.store.contents next.serial.state

-- a failed call has its cause in the host's count, which rose
abbrev pub HasCause : Report → ℕ → ℕ → Type 0
HasCause report.Done before after = Unit {0}
HasCause (report.Failed rise) before after = Rose before after
HasCause report.NoMemory before after = Unit {0}

-- the call in hand was made, and its report was taken
pub record Reports (world : SerialWorld) (report : Report) (moment : ℕ) (outcome : Outcome) (next : SerialWorld)
    : Type 0 where
  pub number : ℕ
  pub call : HostCall
  pub answer : Answer
  pub busy : world.serial.hand ≡ Some (number, call)
  pub turn : Turns world.serial.state world.store (event.Done number report moment) outcome answer
      next.serial.state next.store
  pub hand : next.serial.hand ≡ job_of answer
  pub roots : next.host.roots ≡ roots_after report call world.host.roots
  pub counts : CarriesCounts report world.host.failures next.host.failures
  pub cause : HasCause report world.host.failures next.host.failures
  pub later : world.host.failures ≤ next.host.failures
  pub clock : Reads world.clock (moment ∷ []) next.clock
  pub early : moment < moment_limit
  pub caused : IsCaused outcome world.store.failures next.store.failures
  pub kept : KeepsRecords world.store.contents world.serial.state next.store.contents next.serial.state

-- one step leads from one moment to the next
abbrev pub Steps : SerialWorld → Step → SerialWorld → Type 0
Steps world (took moment) next = Takes world moment next
Steps world (reported report moment outcome) next = Reports world report moment outcome next

-- ---- several steps

-- So many end all operations that can be live at once.
abbrev pub most_steps : ℕ
most_steps = 4096

-- steps lead from one moment to another, each made where the state before it is such
abbrev pub StepsWhile : (State → Type 0) → SerialWorld → List Step → SerialWorld → Type 0
StepsWhile such world [] later = world ≡ later
StepsWhile such world (step ∷ steps) later =
    such world.serial.state × (next : SerialWorld) × Steps world step next × StepsWhile such next steps later

-- steps lead from one moment to another
abbrev pub StepsTo : SerialWorld → List Step → SerialWorld → Type 0
StepsTo = StepsWhile (λ state. Unit {0})

-- steps until nothing is live
pub record Finishes (world : SerialWorld) (steps : List Step) (later : SerialWorld) : Type 0 where
  pub made : StepsWhile (λ state. state.operations.live ≢ []) world steps later
  pub done : later.serial.state.operations.live ≡ []

-- steps until an operation has ended
pub record WaitsFor (number : ℕ) (world : SerialWorld) (steps : List Step) (later : SerialWorld) : Type 0 where
  pub made : StepsWhile (λ state. live_at state.operations number ≢ None) world steps later
  pub done : live_at later.serial.state.operations number ≡ None
