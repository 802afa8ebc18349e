use Rattle.std.specs.Prelude.{ℕ, List, ◌≡◌, ◌+◌, ◌≤◌, length, take, drop, Result, Ok, Err}
use Rattle.size_values.specs.declared.entry.Entry.{Entry}
use Rattle.record_keeper.specs.Entries.{entries_before, entries_after}

-- the list has the entries before a place up to the index low, and those after it from the index high on
pub record SplitsAt (kind : ℕ) (key : List ℕ) (entries : List Entry) (low high : ℕ) : Type 0 where
  pub within : high ≤ length entries
  pub front : entries_before kind key entries ≡ take low entries
  pub back : entries_after kind key entries ≡ drop high entries

-- the entry of this kind and key stands at this index, or there is none and it would stand there
abbrev pub Finds : ℕ → List ℕ → List Entry → Result ℕ ℕ → Type 0
Finds kind key entries (Ok i) = SplitsAt kind key entries i (i + 1)
Finds kind key entries (Err i) = SplitsAt kind key entries i i
