-- Turns of the server: each is one step of the machine.
use Rattle.std.specs.Prelude.{◌≡◌, List, [], Some}
use Rattle.record_keeper.specs.Store.{Store}
use Rattle.records.specs.declared.notices.Untold.{Untold}
use Rattle.row_machine.specs.declared.changes.RowChange.{RowChange}
use Rattle.row_machine.specs.declared.events.Answer.{Answer}
use Rattle.row_machine.specs.declared.events.Event.{Event}
use Rattle.row_machine.specs.declared.events.Event.TheVariants as event
use Rattle.row_machine.specs.machine.State.{State}
use Rattle.row_machine.specs.machine.Accept.{and_then}
use Rattle.row_machine.specs.machine.Step.{Outcome, step}
use Rattle.row_machine.specs.shown.Notices.{telling}
use Rattle.machine_laws.specs.Possible.{IsPossible}
use Rattle.core_instances.specs.core_rows.specs.Asked.{changes_of}
use Rattle.core_instances.specs.core_reports.specs.Jobs.{changes_reported}
use Rattle.core_instances.specs.core_reports.specs.Stores.{IsCaused, KeepsRecords, Stores}

-- the events that can come are served, with whatever outcome
abbrev pub IsServed : Event → Type 0
IsServed = IsPossible

-- the state without its notices
abbrev pub without_notices : State → State
without_notices state = record state { notices = []; next_notice = 1 }

-- the changes of rows that an event is to commit
abbrev pub changes_by : State → Event → List RowChange
changes_by state (event.Ask command moment) = changes_of state command moment
changes_by state (event.Done number report moment) = changes_reported state number report
changes_by state other = []

-- An event with its outcome led to this answer, and from one state and store to the next: its changes went to the
-- store in one call, and without changes the keeper was not called.
pub record Turns (state : State) (store : Store) (event : Event) (outcome : Outcome) (answer : Answer)
    (later : State) (store' : Store) : Type 0 where
  pub is : step state event outcome ≡ Some (and_then answer later)
  pub stored : Stores (changes_by state event) outcome store store'

-- An event was answered, with an outcome that the keeper's count bears out. Entries that were the records of the rows
-- are so afterwards.
pub record IsTurn (state : State) (store : Store) (event : Event) (answer : Answer) (later : State)
    (store' : Store) : Type 0 where
  pub outcome : Outcome
  pub turns : Turns state store event outcome answer later store'
  pub caused : IsCaused outcome store.failures store'.failures
  pub kept : KeepsRecords store.contents state store'.contents later

-- An event was answered as one step of the machine, and these notices are left untold: a turn before they go to the
-- hub.
pub record Comes (state : State) (store : Store) (event : Event) (answer : Answer) (later : State)
    (untold : List Untold) (store' : Store) : Type 0 where
  pub outcome : Outcome
  pub is : step state event outcome ≡ Some (and_then answer (telling untold later))
  pub stored : Stores (changes_by state event) outcome store store'
  pub caused : IsCaused outcome store.failures store'.failures
  pub kept : KeepsRecords store.contents state store'.contents later
