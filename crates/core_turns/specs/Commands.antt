-- Which commands wait for a live operation.
use Rattle.std.specs.Prelude.{ℕ, Option, Some, None, if◌then◌else◌}
use Rattle.records.specs.declared.commands.What.{What}
use Rattle.records.specs.declared.commands.What.TheVariants as what
use Rattle.row_machine.specs.machine.State.{State}
use Rattle.core_instances.specs.Waits.{is_held}

-- the live operation for which a command is to wait
abbrev pub held_for : State → What → Option ℕ
held_for state (what.Wait op timeout) = if is_held state (what.Wait op timeout) then Some op else None
held_for state other = None
