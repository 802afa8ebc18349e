-- How statuses, kinds, drivers and limits are written in replies.
use Rattle.std.specs.Prelude.{ℕ, List, [], ◌++◌, codes}
use Rattle.size_values.specs.declared.kinds.Kind.{Kind}
use Rattle.size_values.specs.declared.kinds.Kind.TheVariants.{Container, Machine}
use Rattle.size_values.specs.declared.kinds.Power.{Power}
use Rattle.operations.specs.declared.status.Status.{Status}
use Rattle.operations.specs.declared.status.Status.TheVariants.{Failure, Cancelled}
use Rattle.operations.specs.declared.operation.OpFault.{OpFault}
use Rattle.operations.specs.declared.operation.OpFault.TheVariants as fault
use Rattle.row_machine.specs.shown.Statuses.{power_line, status_line}
use Rattle.records.specs.declared.replies.LimitKeyName.{LimitKeyName}
use Rattle.records.specs.declared.replies.LimitKeyName.TheVariants as limit
use Rattle.records.specs.declared.rows.Driver.{Driver}
use Rattle.records.specs.declared.rows.Driver.TheVariants.{Dir, Btrfs, Lvm, Zfs}

-- the number of an operation's status
abbrev pub status_code : Status → ℕ
status_code status = (status_line status).code

-- the key under which the operations of a status are listed
abbrev pub status_key : Status → List ℕ
status_key status = (status_line status).key

-- the number of an instance's status
abbrev pub power_code : Power → ℕ
power_code power = (power_line power).code

-- what an instance is
abbrev pub instance_kind : Kind → List ℕ
instance_kind Container = codes "container"
instance_kind Machine = codes "virtual-machine"

-- the driver of a pool
abbrev pub driver_text : Driver → List ℕ
driver_text Dir = codes "dir"
driver_text Btrfs = codes "btrfs"
driver_text Lvm = codes "lvm"
driver_text Zfs = codes "zfs"

-- the key of a limit without `limits.`; that of a limit on a pool ends with the pool's name
abbrev pub limit_name : LimitKeyName → List ℕ
limit_name limit.Instances = codes "instances"
limit_name limit.Containers = codes "containers"
limit_name limit.Machines = codes "virtual-machines"
limit_name limit.Cpu = codes "cpu"
limit_name limit.Memory = codes "memory"
limit_name limit.Processes = codes "processes"
limit_name limit.Disk = codes "disk"
limit_name limit.Networks = codes "networks"
limit_name (limit.DiskOnPool pool) = codes "disk.pool." ++ pool

-- what made an operation fail
abbrev pub fault_text : OpFault → List ℕ
fault_text fault.None = []
fault_text (fault.Host call before after) = codes "host call failed"
fault_text (fault.Keeper before after) = codes "keeper failed"
fault_text fault.NoMemory = codes "no memory"

-- why an operation ended without success, empty for every other one
abbrev pub error_text : Status → OpFault → List ℕ
error_text Failure fault = fault_text fault
error_text Cancelled fault = codes "operation was cancelled"
error_text other fault = []
