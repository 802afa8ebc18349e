-- What changes of entries do to a database: each is one statement over its table `records`, and all are one
-- transaction.
use Rattle.std.specs.Prelude.{◌≡◌, ℕ, pos, true, List, [], ◌∷◌, Ok}
use Rattle.size_values.specs.declared.entry.EntryChange.{EntryChange}
use Rattle.size_values.specs.declared.entry.EntryChange.TheVariants.{Put, Remove}
use Rattle.sqlite.specs.Order.{Row}
use Rattle.sqlite.specs.declared.types.Value.TheVariants.{Int, Text, Blob}
use Rattle.sqlite.specs.Store.{Ghosts}
use Rattle.sqlite.specs.Effect.{Database}
use Rattle.sqlite.specs.State.{Executes}
use Rattle.sqlite.specs.Held.{Held, state}
use Rattle.sqlite_keeper.specs.declared.changes.TheConstants.{PUT, REMOVE}

-- the statement that makes a change
abbrev pub statement_of : EntryChange → List ℕ
statement_of (Put entry) = PUT.now
statement_of (Remove kind key) = REMOVE.now

-- and the values of its parameters
abbrev pub values_of : EntryChange → Row
values_of (Put entry) = Int (pos entry.kind) ∷ Text entry.key ∷ Blob entry.body ∷ []
values_of (Remove kind key) = Int (pos kind) ∷ Text key ∷ []

-- a connection after the statements of these changes, one after the other
abbrev pub Makes : {S : Type 0} → Ghosts S → List EntryChange → Held S → Held S → Type 0
Makes ghosts [] old new = new ≡ old
Makes {S} ghosts (change ∷ changes) old new =
    (mid : Held S) × (count : ℕ)
    × Executes (statement_of change) (values_of change) (state ghosts old) (state ghosts mid) (Ok count)
    × Makes ghosts changes mid new

-- what a database holds after these changes, all of them made in one transaction
pub record Leaves {S : Type 0} (ghosts : Ghosts S) (changes : List EntryChange) (old : Held S)
    (db : Database) : Type 0 where
  pub last : Held S
  pub made : Makes ghosts changes (record old { in_transaction = true }) last
  pub is : db ≡ (state ghosts last).now
