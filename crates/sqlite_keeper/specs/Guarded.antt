-- What every call leaves of a connection.
use Rattle.std.specs.Prelude.{◌≡◌, false}
use Rattle.sqlite.specs.Store.{Ghosts}
use Rattle.sqlite.specs.Held.{Held, state}

-- No transaction is left open where none was, and reads that were tested against a digest of what was written still
-- are.
abbrev pub StaysGuarded : {S : Type 0} → Ghosts S → Held S → Held S → Type 0
StaysGuarded ghosts old new =
    (old.in_transaction ≡ false → new.in_transaction ≡ false)
    × ((state ghosts old).IsShielded → (state ghosts new).IsShielded)
