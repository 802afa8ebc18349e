-- What a keeper has opens again.
use Rattle.std.specs.Prelude.{◌≡◌, IfSome}
use Rattle.machine_laws.specs.Reopening.{reopened}
use Rattle.record_keeper.specs.Store.{Store}
use Rattle.row_machine.specs.machine.State.{State}
use Rattle.row_machine.specs.opening.Opening.{opened, opening_of}

-- the entries of a store, where it tells them, open to the rows of this state, as a server has them that was ended and
-- opened again
abbrev pub OpensAgain : State → Store → Type 0
OpensAgain state store = IfSome store.contents (λ entries. opening_of entries ≡ opened (reopened state))
