-- What is kept and the rows agree, for rows of all kinds.
use Rattle.std.specs.Prelude.{◌≡◌, ◌<◌, ℕ, List, [], ◌∷◌, Some, None, true}
use Rattle.size_values.specs.Moments.{moment_limit}
use Rattle.record_keeper.specs.Entries.{IsOrderedEntries, after_changes}
use Rattle.operations.specs.declared.operation.Operation.{Operation}
use Rattle.operations.specs.OperationTable.{live_at}
use Rattle.records.specs.Forms.{is_formed}
use Rattle.records.specs.declared.commands.Command.{Command}
use Rattle.row_machine.specs.declared.changes.RowChange.{RowChange}
use Rattle.row_machine.specs.machine.Task.{Task}
use Rattle.row_machine.specs.machine.State.{State}
use Rattle.row_machine.specs.machine.Changes.{changed, applied}
use Rattle.row_machine.specs.opening.Records.{records_of}
use Rattle.row_machine.specs.machine.Plans.{changes, plan_of}
use Rattle.row_machine.specs.machine.Rules.{broken}
use Rattle.row_machine.specs.machine.Operations.{success_changes, succeeded}
use Rattle.row_machine.specs.facts.Whole.{IsWhole, AreNamed}
use Rattle.machine_laws.specs.Entries.{entry_changes}

-- names are good and rise after each single change
abbrev pub StaysNamed : State → List RowChange → Type 0
StaysNamed state [] = Unit {0}
StaysNamed state (change ∷ row_changes) =
    AreNamed (changed state change) × StaysNamed (changed state change) row_changes

-- The records of a state stand in the order of kind and key, each kind and key once.
abbrev pub RecordsOrdered : Type 0
RecordsOrdered = (state : State) → AreNamed state → IsOrderedEntries (records_of state)

-- Changes of rows, committed as changes of their entries to the records of a state, make them the records of the state
-- after these changes.
abbrev pub RecordsFollow : Type 0
RecordsFollow = (state : State) (row_changes : List RowChange) → AreNamed state → StaysNamed state row_changes →
    after_changes (entry_changes row_changes) (records_of state) ≡ records_of (applied state row_changes)

-- The changes at once of a command that breaks no rule, committed, make the records of the state after them.
abbrev pub CommandsFollow : Type 0
CommandsFollow = (state : State) (command : Command) (moment : ℕ) (row_changes : List RowChange) →
    IsWhole state → is_formed command ≡ true → moment < moment_limit → broken state command moment ≡ None
    → plan_of state command moment ≡ changes row_changes →
    after_changes (entry_changes row_changes) (records_of state) ≡ records_of (applied state row_changes)

-- The changes at the success of a live operation, committed, make the records of the state after it.
abbrev pub SuccessesFollow : Type 0
SuccessesFollow = (state : State) (operation : Operation Task) (moment : ℕ) →
    IsWhole state → live_at state.operations operation.number ≡ Some operation →
    after_changes (entry_changes (success_changes state operation.work)) (records_of state)
    ≡ records_of (succeeded state operation moment)
