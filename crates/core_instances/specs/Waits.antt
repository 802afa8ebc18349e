-- The waits whose answers are held back.
use Rattle.std.specs.Prelude.{ℤ, pos, negsuc, ◌==◌, Bool, false, not, ◌&&◌, is_some}
use Rattle.operations.specs.OperationTable.{live_at}
use Rattle.records.specs.declared.commands.What.{What}
use Rattle.records.specs.declared.commands.What.TheVariants as what
use Rattle.row_machine.specs.machine.State.{State}

-- whether a number of seconds is none
abbrev pub is_zero : ℤ → Bool
is_zero (pos n) = n == 0
is_zero (negsuc n) = false

-- whether its answer is held back: it waits for a live operation, for some time
abbrev pub is_held : State → What → Bool
is_held state (what.Wait op timeout) = is_some (live_at state.operations op) && not (is_zero timeout)
is_held state other = false
