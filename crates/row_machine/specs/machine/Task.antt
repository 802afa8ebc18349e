-- What a background operation does and holds: what contracts see of it.
use Rattle.row_machine.specs.Words.{ℕ, List, Option, Deed, HostCall, Row, Target}

-- The deed; the project and the object that it is about; the claimed row, which its success puts, and the project and
-- name of the instance that this row replaces, if it replaces one; the source of a copy; the host's calls that are not
-- handed out yet, and the call that takes the deed back, while it was not handed out; and how many calls were done
-- before the last one was handed out.
pub record Task : Type 0 where
  pub deed : Deed
  pub project : List ℕ
  pub target : Target
  pub claim : Option Row
  pub replaces : Option (List ℕ × List ℕ)
  pub source : Option Target
  pub calls : List HostCall
  pub undo : Option HostCall
  pub done : ℕ
