-- Changes of rows as changes of their entries.
use Rattle.std.specs.Prelude.{ℕ, List, map}
use Rattle.size_values.specs.declared.kinds.ObjectKind.{ObjectKind}
use Rattle.size_values.specs.declared.kinds.ObjectKind.TheVariants as kind
use Rattle.size_values.specs.declared.entry.EntryChange.{EntryChange}
use Rattle.size_values.specs.declared.entry.EntryChange.TheVariants.{Put, Remove}
use Rattle.row_codec.specs.Spelling.{entry_of}
use Rattle.row_machine.specs.declared.changes.RowChange.{RowChange}
use Rattle.row_machine.specs.declared.changes.RowChange.TheVariants as change

-- the number that entries of this kind have; an operation has no entry
abbrev pub number_of : ObjectKind → ℕ
number_of kind.Project = 1
number_of kind.Profile = 2
number_of kind.Network = 3
number_of kind.Pool = 4
number_of kind.Volume = 5
number_of kind.Instance = 6
number_of kind.Snapshot = 7
number_of kind.Operation = 0

-- a change of a row as the change of its entry
abbrev pub entry_change : RowChange → EntryChange
entry_change (change.Put row) = Put (entry_of row)
entry_change (change.Remove of key) = Remove (number_of of) key

-- changes of rows as changes of their entries, in their order
abbrev pub entry_changes : List RowChange → List EntryChange
entry_changes changes = map entry_change changes
