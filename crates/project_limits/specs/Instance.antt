-- What an instance or a volume counts for in its project, by its expanded settings and devices.
use Rattle.std.specs.Prelude.{ℕ, Option, Some, None, codes, option_and_then, unwrap_or, slice_get}
use Rattle.std.specs.Map.{values_of}
use Rattle.std.specs.Result.{result_ok}
use Rattle.size_values.specs.Cpu.{cpu_of}
use Rattle.size_values.specs.MemorySize.{memory_of}
use Rattle.size_values.specs.declared.amounts.Amounts.{Amounts}
use Rattle.size_values.specs.declared.cpu.Cpu.{Cpu}
use Rattle.size_values.specs.declared.cpu.Cpu.TheVariants as cpu
use Rattle.size_values.specs.declared.kinds.Kind.{Kind}
use Rattle.size_values.specs.declared.kinds.Kind.TheVariants.{Container, Machine}
use Rattle.size_values.specs.declared.memory_size.Memory.{Memory}
use Rattle.size_values.specs.declared.memory_size.Memory.TheVariants as memory
use Rattle.config_lists.specs.Devices.{NamedDevices, root_of}
use Rattle.config_lists.specs.Settings.{Settings, setting}
use Rattle.config_lists.specs.declared.root.Root.{Root}
use Rattle.config_lists.specs.declared.root.Root.TheVariants as root
use Rattle.project_limits.specs.Limits.{count_in, size_in}
use Rattle.project_limits.specs.declared.sums.SumKey.{SumKey}
use Rattle.project_limits.specs.declared.sums.SumKey.TheVariants as sum

-- a number of processors; a pinned set has none
abbrev pub processors : Cpu → Option ℕ
processors (cpu.Count number) = Some number
processors cpu.Pinned = None

-- a number of bytes; a percentage has none
abbrev pub bytes : Memory → Option ℕ
bytes (memory.Bytes number) = Some number
bytes (memory.Percent percent) = None

-- the device at the place of the one root disk
abbrev pub disk_at : NamedDevices → Root → Option Settings
disk_at devices root.None = None
disk_at devices (root.One place) = slice_get (values_of devices) place
disk_at devices root.Several = None

-- the processors of an instance, if they are a count
unfoldable pub cpu_in : Settings → Option ℕ
cpu_in config =
    option_and_then (λ text. option_and_then processors (result_ok (cpu_of text))) (setting config (codes "limits.cpu"))

-- the bytes of its memory, if they are no percentage
unfoldable pub memory_in : Settings → Option ℕ
memory_in config =
    option_and_then (λ text. option_and_then bytes (result_ok (memory_of text)))
    (setting config (codes "limits.memory"))

-- the processes of a container; those of a virtual machine are not counted, it has none
abbrev pub processes_in : Kind → Settings → Option ℕ
processes_in Container config = count_in config (codes "limits.processes")
processes_in Machine config = Some 0

-- the size of the one root disk, if there is one and its size is set
unfoldable pub disk_in : NamedDevices → Option ℕ
disk_in devices = option_and_then (λ disk. size_in disk (codes "size")) (disk_at devices (root_of devices))

-- how much of a sum an instance has, if its settings give a number
abbrev pub counted : SumKey → Kind → Settings → NamedDevices → Option ℕ
counted sum.Cpu kind config devices = cpu_in config
counted sum.Memory kind config devices = memory_in config
counted sum.Processes kind config devices = processes_in kind config
counted sum.Disk kind config devices = disk_in devices

-- one for an instance of the kind
abbrev pub one_if_container : Kind → ℕ
one_if_container Container = 1
one_if_container Machine = 0

abbrev pub one_if_machine : Kind → ℕ
one_if_machine Container = 0
one_if_machine Machine = 1

-- what an instance counts for: itself, and each number that its settings give
unfoldable pub instance_amounts : Kind → Settings → NamedDevices → Amounts
instance_amounts kind config devices = record {
  instances = 1;
  containers = one_if_container kind;
  machines = one_if_machine kind;
  cpu = unwrap_or (counted sum.Cpu kind config devices) 0;
  memory = unwrap_or (counted sum.Memory kind config devices) 0;
  processes = unwrap_or (counted sum.Processes kind config devices) 0;
  disk = unwrap_or (counted sum.Disk kind config devices) 0;
}

-- what a volume counts for: its size as disk
unfoldable pub volume_amounts : Settings → Amounts
volume_amounts config = record {
  instances = 0;
  containers = 0;
  machines = 0;
  cpu = 0;
  memory = 0;
  processes = 0;
  disk = unwrap_or (size_in config (codes "size")) 0;
}
