-- A command that was carried out is one step of the machine, and its changes went to the store.
use Rattle.std.specs.Prelude.{◌≡◌, ℕ, List, [], Option, Some, None}
use Rattle.record_keeper.specs.Store.{Store}
use Rattle.records.specs.declared.commands.Command.{Command}
use Rattle.records.specs.declared.notices.Untold.{Untold}
use Rattle.records.specs.declared.refusals.Refusal.{Refusal}
use Rattle.records.specs.declared.replies.Reply.{Reply}
use Rattle.records.specs.declared.replies.Reply.TheVariants as reply
use Rattle.row_machine.specs.declared.changes.RowChange.{RowChange}
use Rattle.row_machine.specs.declared.events.Answer.{Answer}
use Rattle.row_machine.specs.declared.events.Answer.TheVariants as answer
use Rattle.row_machine.specs.declared.events.Event.TheVariants as event
use Rattle.row_machine.specs.machine.State.{State}
use Rattle.row_machine.specs.shown.Notices.{telling}
use Rattle.row_machine.specs.machine.Plans.{Plan, nothing, changes, starts, plan_of}
use Rattle.row_machine.specs.machine.Rules.{broken}
use Rattle.row_machine.specs.machine.Accept.{and_then}
use Rattle.row_machine.specs.machine.Step.{Outcome, step}
use Rattle.core_judging.specs.core_reports.specs.Stores.{IsCaused, Stores}

-- the answer that a reply is: out of memory is an answer of its own
abbrev pub answered : Reply → Answer
answered reply.NoMemory = answer.NoMemory
answered other = answer.Reply other

-- the changes of rows that a plan makes at once
abbrev pub changes_at_once : Plan → List RowChange
changes_at_once nothing = []
changes_at_once (changes row_changes) = row_changes
changes_at_once (starts task) = []

-- of a command that breaks a rule none, and else those of its plan
abbrev pub unless_refused : Option Refusal → Plan → List RowChange
unless_refused None plan = changes_at_once plan
unless_refused (Some refusal) plan = []

-- the changes that a command is to commit in this state: those that its plan makes at once, and none where it breaks
-- a rule
unfoldable pub changes_of : State → Command → ℕ → List RowChange
changes_of state command moment = unless_refused (broken state command moment) (plan_of state command moment)

-- A command was carried out as one step of the machine, with an outcome that the keeper's count bears out: its
-- changes went to the store, its reply is the answer of the step, and the state of the step is the state afterwards
-- with the notices told that are left untold.
pub record IsAsked (state : State) (command : Command) (moment : ℕ) (later : State) (untold : List Untold)
    (reply : Reply) (store store' : Store) : Type 0 where
  pub outcome : Outcome
  pub caused : IsCaused outcome store.failures store'.failures
  pub stored : Stores (changes_of state command moment) outcome store store'
  pub is : step state (event.Ask command moment) outcome ≡ Some (and_then (answered reply) (telling untold later))
