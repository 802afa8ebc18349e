-- What the table `records` says: its rows in the order of entries, each of which says one.
use Rattle.std.specs.Prelude.{◌≡◌, ℕ, pos, List, [], ◌∷◌}
use Rattle.size_values.specs.declared.entry.Entry.{Entry}
use Rattle.sqlite.specs.Order.{Row, column}
use Rattle.sqlite.specs.declared.types.Value.TheVariants.{Int, Text, Blob}
use Rattle.sqlite.specs.Store.{Ghosts}
use Rattle.sqlite.specs.State.{Shown}
use Rattle.sqlite.specs.Held.{Held, state}
use Rattle.sqlite_keeper.specs.declared.entries.TheConstants.{ALL}

abbrev pub SaysKind : Row → ℕ → Type 0
SaysKind row kind = column row 0 ≡ Int (pos kind)

abbrev pub SaysKey : Row → List ℕ → Type 0
SaysKey row key = column row 1 ≡ Text key

abbrev pub SaysBody : Row → List ℕ → Type 0
SaysBody row body = column row 2 ≡ Blob body

-- a row says this entry
abbrev pub Says : Row → Entry → Type 0
Says row entry = SaysKind row entry.kind × SaysKey row entry.key × SaysBody row entry.body

-- these rows say these entries, one each
abbrev pub SayEach : List Row → List Entry → Type 0
SayEach [] [] = Unit {0}
SayEach (row ∷ rows) (entry ∷ entries) = Says row entry × SayEach rows entries
SayEach _ _ = ⊥

-- the entries are those of the rows that a query for all of them shows
pub record AreKept {S : Type 0} (ghosts : Ghosts S) (old new : Held S) (entries : List Entry) : Type 0 where
  pub rows : List Row
  pub shown : Shown ALL.now [] (state ghosts old) (state ghosts new) rows
  pub say : SayEach rows entries
