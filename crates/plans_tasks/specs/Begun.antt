-- What a command begins in the background.
use Rattle.std.specs.Prelude.{Option, Some, None}
use Rattle.records.specs.declared.rows.Instance.{Instance}
use Rattle.records.specs.declared.rows.Row.{Row}
use Rattle.records.specs.declared.rows.Row.TheVariants as row
use Rattle.records.specs.declared.rows.Snapshot.{Snapshot}
use Rattle.row_machine.specs.machine.Task.{Task}
use Rattle.row_machine.specs.machine.Plans.{Plan, nothing, changes, starts}

-- the background operation that a plan begins
abbrev pub task_in : Plan → Option Task
task_in nothing = None
task_in (changes row_changes) = None
task_in (starts task) = Some task

-- the row, where it is an instance
abbrev pub instance_in : Option Row → Option Instance
instance_in (Some (row.Instance instance)) = Some instance
instance_in other = None

-- the row, where it is a snapshot
abbrev pub snapshot_in : Option Row → Option Snapshot
snapshot_in (Some (row.Snapshot snapshot)) = Some snapshot
snapshot_in other = None
