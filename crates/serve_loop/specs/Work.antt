-- A worker: it asks for calls of background operations, makes them on a host, and reports of them, one after the other.
use Rattle.std.specs.Prelude.{◌≡◌, ◌≤◌, ℕ}
use Rattle.host_model.specs.declared.call.HostCall.{HostCall}
use Rattle.host_model.specs.declared.report.Report.{Report}
use Rattle.host_model.specs.Reports.{roots_after, CarriesCounts}
use Rattle.http_front.specs.Clocks.{Readings}
use Rattle.row_machine.specs.declared.events.Answer.{Answer}
use Rattle.row_machine.specs.declared.events.Answer.TheVariants as answer
use Rattle.row_machine.specs.declared.events.Event.{Event}
use Rattle.row_machine.specs.declared.events.Event.TheVariants as event
use Rattle.gates.specs.serial_steps.specs.Steps.{HasCause, Hosted}
use Rattle.gates.specs.History.{Item, idle, turn}
use Rattle.gates.specs.Moments.{IsRead}
use Rattle.serve_loop.specs.declared.worker.WorkerState.{WorkerState}
use Rattle.serve_loop.specs.declared.worker.WorkerState.TheVariants as post

-- a worker at one moment: what it has to do next, and what is seen of its host and its clock
pub record WorkerWorld : Type 0 where
  pub post : WorkerState
  pub host : Hosted
  pub clock : Readings

abbrev pub worker_world : WorkerState → Hosted → Readings → WorkerWorld
worker_world post host clock = record { post = post; host = host; clock = clock }

-- What is to be done after a call was asked for: to make the one that was handed out; to idle, where none waits; or
-- nothing any more, where the server was closed.
abbrev pub Gets : Answer → WorkerState → Type 0
Gets (answer.Job number call) next = next ≡ post.Busy number call
Gets answer.NoJob next = next ≡ post.Idling
Gets answer.Closed next = next ≡ post.Over
Gets other next = ⊥

-- What is to be done after a report: to make the next call of the operation; or to ask for another one, where the
-- operation has ended or no call of it was out.
abbrev pub GoesOn : Answer → WorkerState → Type 0
GoesOn (answer.Job number call) next = next ≡ post.Busy number call
GoesOn (answer.Ended number) next = next ≡ post.Asking
GoesOn (answer.Stray number) next = next ≡ post.Asking
GoesOn other next = ⊥

-- a call was asked for, at the clock's next reading
pub record Takes (worker : WorkerWorld) (an_event : Event) (answer : Answer) (next : WorkerWorld) : Type 0 where
  pub moment : ℕ
  pub asks : an_event ≡ event.Take moment
  pub clock : IsRead worker.clock moment next.clock
  pub host : next.host ≡ worker.host
  pub gets : Gets answer next.post

-- A call was made on the host, once, and what became of it was reported, at the clock's next reading.
pub record Reports (number : ℕ) (call : HostCall) (worker : WorkerWorld) (an_event : Event) (answer : Answer)
    (next : WorkerWorld) : Type 0 where
  pub report : Report
  pub moment : ℕ
  pub tells : an_event ≡ event.Done number report moment
  pub roots : next.host.roots ≡ roots_after report call worker.host.roots
  pub counts : CarriesCounts report worker.host.failures next.host.failures
  pub cause : HasCause report worker.host.failures next.host.failures
  pub later : worker.host.failures ≤ next.host.failures
  pub clock : IsRead worker.clock moment next.clock
  pub goes_on : GoesOn answer next.post

-- what a worker does at its post
abbrev pub DoneAt : WorkerState → WorkerWorld → Item → WorkerWorld → Type 0
DoneAt post.Asking worker (turn event outcome answer) next = Takes worker event answer next
DoneAt (post.Busy number call) worker (turn event outcome answer) next = Reports number call worker event answer next
DoneAt post.Idling worker (idle is_up events) next = next ≡ worker_world post.Asking worker.host worker.clock
DoneAt other worker item next = ⊥

-- one thing that a worker does
abbrev pub WorkBy : WorkerWorld → Item → WorkerWorld → Type 0
WorkBy worker item next = DoneAt worker.post worker item next
