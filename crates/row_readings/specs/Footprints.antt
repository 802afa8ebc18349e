-- What rows and operations count for: amounts, and of their disk what is on a pool.
use Rattle.std.specs.Prelude.{Option}
use Rattle.size_values.specs.Amounts.{nothing, excess_of}
use Rattle.size_values.specs.PoolParts.{no_part, part_above}
use Rattle.records.specs.declared.rows.Instance.{Instance}
use Rattle.records.specs.declared.rows.Row.{Row}
use Rattle.records.specs.declared.rows.Volume.{Volume}
use Rattle.row_machine.specs.machine.Claims.{amounts_of, amounts_of_instance, amounts_of_volume, part_of_instance}
use Rattle.row_machine.specs.machine.Claims.{part_of_row, part_of_share, part_of_volume, part_over, share_of}
use Rattle.row_machine.specs.machine.Claims.{share_over}
use Rattle.row_machine.specs.machine.State.{State}
use Rattle.row_machine.specs.machine.Task.{Task}
use Rattle.row_readings.specs.declared.amounts.Footprint.{Footprint}

abbrev pub no_footprint : Footprint
no_footprint = record { amounts = nothing; on = no_part }

-- by how much one is above another, part by part and on its pool
abbrev pub footprint_above : Footprint → Footprint → Footprint
footprint_above footprint other =
    record { amounts = excess_of footprint.amounts other.amounts; on = part_above footprint.on other.on }

abbrev pub instance_footprint : State → Instance → Footprint
instance_footprint state instance =
    record { amounts = amounts_of_instance state instance; on = part_of_instance state instance }

abbrev pub volume_footprint : Volume → Footprint
volume_footprint volume = record { amounts = amounts_of_volume volume; on = part_of_volume volume }

abbrev pub row_footprint : State → Row → Footprint
row_footprint state row = record { amounts = amounts_of state row; on = part_of_row state row }

-- of a claimed row, above the instance that it replaces
abbrev pub footprint_over : State → Row → Option Instance → Footprint
footprint_over state new old = record { amounts = share_over state new old; on = part_over state new old }

-- of an operation: its share
abbrev pub share_footprint : State → Task → Footprint
share_footprint state task = record { amounts = share_of state task; on = part_of_share state task }
