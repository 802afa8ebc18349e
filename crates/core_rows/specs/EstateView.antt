-- What the rows of the server are seen as.
use Rattle.std.specs.Prelude.{List}
use Rattle.records.specs.declared.notices.Untold.{Untold}
use Rattle.row_machine.specs.machine.State.{State}

-- the state, and the notices that were not yet taken
pub record EstateView : Type 0 where
  pub state : State
  pub untold : List Untold
