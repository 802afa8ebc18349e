-- The rows that entries spell.
use Rattle.std.specs.Prelude.{ℕ, ◌≡◌, List, [], ◌∷◌, ◌++◌, Some, option_map, slice_get, Result, Ok, Err}
use Rattle.size_values.specs.declared.entry.Entry.{Entry}
use Rattle.size_values.specs.declared.memory.Or.{Or}
use Rattle.size_values.specs.declared.memory.Or.TheVariants as or
use Rattle.records.specs.declared.rows.Row.{Row}
use Rattle.row_codec.specs.Reading.{row_of}
use Rattle.row_codec.specs.declared.damage.Damaged.{Damaged}
use Rattle.row_machine.specs.opening.Opening.{rows_in}

-- the row of an entry was added; or it spells none; or memory ran out
abbrev pub Adds : {T : Type 0} → Result T (Or Damaged) → Entry → List Row → List Row → Type 0
Adds (Ok value) entry rows rows' = (row : Row) × (row_of entry ≡ Ok row) × (rows' ≡ rows ++ row ∷ [])
Adds (Err or.NoMemory) entry rows rows' = Unit {0}
Adds (Err (or.Why why)) entry rows rows' = row_of entry ≡ Err why

-- the entry at this place is the first that spells no row; out of memory says nothing of the entries
abbrev pub EndsAt : Or ℕ → List Entry → Type 0
EndsAt or.NoMemory entries = Unit {0}
EndsAt (or.Why place) entries = option_map Err (slice_get entries place) ≡ Some (rows_in entries)

-- these rows are those of the entries, or an entry spells none
abbrev pub Fills : {T : Type 0} → Result T (Or ℕ) → List Entry → List Row → Type 0
Fills (Ok value) entries rows = rows_in entries ≡ Ok rows
Fills (Err why) entries rows = EndsAt why entries

-- the rows of the entries, or an entry spells none
abbrev pub AreRows : Result (List Row) (Or ℕ) → List Entry → Type 0
AreRows (Ok rows) entries = rows_in entries ≡ Ok rows
AreRows (Err why) entries = EndsAt why entries
