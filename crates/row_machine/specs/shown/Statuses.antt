-- How statuses of operations and instances are written, as tables.
use Rattle.row_machine.specs.Words.{ℕ, List, codes, Status, Power}

-- how refusals and replies write the status, the key under which operations of it are listed, and its number
pub record StatusLine : Type 0 where
  pub text : List ℕ
  pub key : List ℕ
  pub code : ℕ

abbrev pub status_of_text : List ℕ → List ℕ → ℕ → StatusLine
status_of_text text key code = record { text = text; key = key; code = code }

abbrev pub status_line : Status → StatusLine
status_line Status.Pending = status_of_text (codes "Pending") (codes "pending") 105
status_line Status.Running = status_of_text (codes "Running") (codes "running") 103
status_line Status.Cancelling = status_of_text (codes "Cancelling") (codes "cancelling") 104
status_line Status.Success = status_of_text (codes "Success") (codes "success") 200
status_line Status.Failure = status_of_text (codes "Failure") (codes "failure") 400
status_line Status.Cancelled = status_of_text (codes "Cancelled") (codes "cancelled") 401

-- how refusals and replies write the status of an instance, and its number
pub record PowerLine : Type 0 where
  pub text : List ℕ
  pub code : ℕ

abbrev pub power_line : Power → PowerLine
power_line Power.Stopped = record { text = codes "Stopped"; code = 102 }
power_line Power.Running = record { text = codes "Running"; code = 103 }
power_line Power.Frozen = record { text = codes "Frozen"; code = 110 }
power_line Power.Error = record { text = codes "Error"; code = 112 }
