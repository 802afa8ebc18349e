-- What the store holds for a state: an entry for each row, by kind and then by key.
use Rattle.std.specs.Prelude.{List, [], ◌∷◌, ◌++◌, map}
use Rattle.row_machine.specs.Words.{inserted, Entry, Row, entry_of}
use Rattle.row_machine.specs.Words.row
use Rattle.row_machine.specs.machine.State.{State}
use Rattle.row_machine.specs.machine.Rows.{text_before}

-- all rows of a state, kind by kind
abbrev pub rows_of : State → List Row
rows_of state =
    map row.Project state.projects
    ++ map row.Profile state.profiles
    ++ map row.Network state.networks
    ++ map row.Pool state.pools
    ++ map row.Volume state.volumes
    ++ map row.Instance state.instances
    ++ map row.Snapshot state.snapshots

-- entries of one kind in the byte order of their keys
abbrev pub by_key : List Entry → List Entry
by_key [] = []
by_key (entry ∷ entries) = inserted (λ other. text_before entry.key other.key) entry (by_key entries)

-- the entries of rows of one kind
abbrev pub entries_in : List Row → List Entry
entries_in rows = by_key (map entry_of rows)

-- The entries of a state. Statuses, operations, claims and notices have none.
unfoldable pub records_of : State → List Entry
records_of state =
    entries_in (map row.Project state.projects)
    ++ entries_in (map row.Profile state.profiles)
    ++ entries_in (map row.Network state.networks)
    ++ entries_in (map row.Pool state.pools)
    ++ entries_in (map row.Volume state.volumes)
    ++ entries_in (map row.Instance state.instances)
    ++ entries_in (map row.Snapshot state.snapshots)
