-- The limits of projects, what instances and volumes count for, and what is admitted under limits.
use Prim.Native.String.{String}
use Rattle.std.specs.Prelude.{ℕ, ◌-◌, ◌^◌, ◌==◌, Bool, true, false, not, List, [], ◌∷◌, map, length, filter}
use Rattle.std.specs.Prelude.{if◌then◌else◌, Option, Some, None, codes}
use Rattle.config_lists.specs.Devices.{NamedDevices}
use Rattle.config_lists.specs.Settings.{Settings}
use Rattle.size_values.specs.declared.amounts.Amounts.{Amounts}
use Rattle.size_values.specs.declared.kinds.Kind.{Kind}
use Rattle.size_values.specs.declared.kinds.Kind.TheVariants as kind
use Rattle.project_limits.specs.Admission.{first_over, networks_over}
use Rattle.project_limits.specs.Countable.{first_without_amount, volume_without_amount}
use Rattle.project_limits.specs.Instance.{instance_amounts, volume_amounts}
use Rattle.project_limits.specs.Limits.{limits_of}
use Rattle.project_limits.specs.declared.admission.LimitKey.{LimitKey}
use Rattle.project_limits.specs.declared.admission.LimitKey.TheVariants as key
use Rattle.project_limits.specs.declared.admission.Over.{Over}
use Rattle.project_limits.specs.declared.limits.Limits.{Limits}
use Rattle.project_limits.specs.declared.sums.SumKey.{SumKey}
use Rattle.project_limits.specs.declared.sums.SumKey.TheVariants as sum
use Rattle.tests_settings.specs.Tables.{Agree, Gives, entry, settings, devices}

-- ---- limits

abbrev pub no_limits : Limits
no_limits = record {
  instances = None;
  containers = None;
  machines = None;
  networks = None;
  cpu = None;
  memory = None;
  processes = None;
  disk = None;
}

abbrev pub cpu : Limits
cpu = record no_limits { cpu = Some 8 }

abbrev pub memory : Limits
memory = record no_limits { memory = Some 8 }

abbrev pub processes : Limits
processes = record no_limits { processes = Some 8 }

abbrev pub disk : Limits
disk = record no_limits { disk = Some 8 }

abbrev pub four : Limits
four = record no_limits { cpu = Some 8; memory = Some 8; processes = Some 8; disk = Some 8 }

abbrev pub two_gibibytes : Limits
two_gibibytes = record no_limits { memory = Some 2147483648 }

abbrev pub containers_and_memory : Limits
containers_and_memory = record no_limits { containers = Some 10; memory = Some 10 }

abbrev pub networks : Limits
networks = record no_limits { networks = Some 10 }

-- the settings of a project, and its limits
abbrev pub read : List (Settings × Limits)
read =
    (entry "user.limits.cpu" "1" ∷ [], no_limits)
    ∷ (
      entry "limits.instances" "1" ∷ entry "limits.containers" "02" ∷ entry "limits.virtual-machines" "3"
          ∷ entry "limits.networks" "4" ∷ entry "limits.cpu" "0" ∷ entry "limits.memory" "2GiB"
          ∷ entry "limits.processes" "9223372036854775807" ∷ entry "limits.disk" "7" ∷ [],
      record {
        instances = Some 1;
        containers = Some 2;
        machines = Some 3;
        networks = Some 4;
        cpu = Some 0;
        memory = Some 2147483648;
        processes = Some 9223372036854775807;
        disk = Some 7;
      },
    )
    ∷ (
      entry "limits.cpu" "0-3" ∷ entry "limits.memory" "50%" ∷ entry "limits.processes" "9223372036854775808" ∷ [],
      no_limits,
    )
    ∷ (entry "limits.cpu" "8" ∷ [], cpu)
    ∷ (entry "limits.memory" "2GiB" ∷ [], two_gibibytes)
    ∷ []

-- ---- what instances count for

-- the entries that have a value
abbrev pub full : Settings → Settings
full rows = filter (λ row. not (length row.1 == 0)) rows

-- a disk that counts for nothing
abbrev pub data_disk : Settings
data_disk = settings (entry "type" "disk" ∷ entry "path" "/srv" ∷ entry "pool" "p0" ∷ entry "source" "v"
    ∷ entry "size" "5GiB" ∷ [])

abbrev pub Instance : Type 0
Instance = Settings × NamedDevices

-- an instance by its `limits.cpu`, `limits.memory` and `limits.processes`, and the size of its root disk; those that
-- are empty are not set
abbrev pub instance : String → String → String → String → Instance
instance cpus bytes tasks size = (
  settings (full (entry "limits.cpu" cpus ∷ entry "limits.memory" bytes ∷ entry "limits.processes" tasks ∷ [])),
  devices ((
    codes "root",
    settings (full (entry "type" "disk" ∷ entry "path" "/" ∷ entry "pool" "p0" ∷ entry "size" size ∷ [])),
  )
      ∷ (codes "data", data_disk)
      ∷ []),
)

-- one instance with these amounts
abbrev pub amounts : ℕ → ℕ → ℕ → ℕ → ℕ → ℕ → Amounts
amounts containers machines cpus bytes tasks size = record {
  instances = 1;
  containers = containers;
  machines = machines;
  cpu = cpus;
  memory = bytes;
  processes = tasks;
  disk = size;
}

-- an instance and its amounts
abbrev pub counted : List (Kind × Instance × Amounts)
counted =
    (kind.Container, instance "4" "1GiB" "500" "2GiB", amounts 1 0 4 1073741824 500 2147483648)
    ∷ (kind.Machine, instance "4" "1GiB" "500" "2GiB", amounts 0 1 4 1073741824 0 2147483648)
    ∷ (kind.Container, instance "0-3" "50%" "" "", amounts 1 0 0 0 0 0)
    ∷ (kind.Container, instance "" "" "" "1B", amounts 1 0 0 0 0 1)
    ∷ (kind.Machine, instance "" "" "" "", amounts 0 1 0 0 0 0)
    ∷ (kind.Container, instance "" "1GiB" "" "1GiB", amounts 1 0 0 1073741824 0 1073741824)
    ∷ (kind.Container, instance "" "1B" "" "1GiB", amounts 1 0 0 1 0 1073741824)
    ∷ []

-- the devices of an instance, and what they count for as disk: two root disks count for nothing
abbrev pub root_disks : List (NamedDevices × ℕ)
root_disks =
    ([], 0)
    ∷ (
      (codes "data", data_disk)
          ∷ (codes "more", settings (entry "type" "disk" ∷ entry "path" "/" ∷ entry "pool" "p1" ∷ []))
          ∷ (
            codes "root",
            settings (entry "type" "disk" ∷ entry "path" "/" ∷ entry "pool" "p0" ∷ entry "size" "1GiB" ∷ []),
          )
          ∷ [],
      0,
    )
    ∷ []

-- limits, an instance, and the first limited sum for which it gives no number, if there is one
abbrev pub countable : List (Limits × Kind × Instance × Option SumKey)
countable =
    (cpu, kind.Container, instance "" "1" "1" "1", Some sum.Cpu)
    ∷ (cpu, kind.Machine, instance "0-3" "1" "1" "1", Some sum.Cpu)
    ∷ (cpu, kind.Container, instance "4" "" "" "", None)
    ∷ (memory, kind.Container, instance "1" "" "1" "1", Some sum.Memory)
    ∷ (memory, kind.Machine, instance "1" "10%" "1" "1", Some sum.Memory)
    ∷ (memory, kind.Container, instance "" "10MiB" "" "", None)
    ∷ (processes, kind.Container, instance "1" "1" "" "1", Some sum.Processes)
    ∷ (processes, kind.Machine, instance "" "" "" "", None)
    ∷ (processes, kind.Container, instance "" "" "0" "", None)
    ∷ (disk, kind.Container, instance "1" "1" "1" "", Some sum.Disk)
    ∷ (disk, kind.Machine, instance "" "" "" "1B", None)
    ∷ (four, kind.Container, instance "" "" "" "", Some sum.Cpu)
    ∷ (four, kind.Container, instance "1" "" "" "", Some sum.Memory)
    ∷ (four, kind.Container, instance "1" "1" "" "", Some sum.Processes)
    ∷ (four, kind.Container, instance "1" "1" "1" "", Some sum.Disk)
    ∷ (four, kind.Container, instance "1" "1" "1" "1", None)
    -- a project with `limits.cpu` 8 takes no instance with pinned processors and none without the setting
    ∷ (cpu, kind.Container, instance "0-3" "" "" "1GiB", Some sum.Cpu)
    ∷ (cpu, kind.Container, instance "" "" "" "1GiB", Some sum.Cpu)
    ∷ (cpu, kind.Container, instance "4" "" "" "1GiB", None)
    ∷ []

-- limits, the settings of a volume, what it counts for as disk, and the sum for which it gives no number
abbrev pub volumes : List (Limits × Settings × ℕ × Option SumKey)
volumes =
    (no_limits, [], 0, None)
    ∷ (no_limits, entry "size" "3kB" ∷ [], 3000, None)
    ∷ (disk, [], 0, Some sum.Disk)
    ∷ (disk, entry "size" "1GiB" ∷ [], 1073741824, None)
    ∷ []

-- ---- what is admitted

-- so much of everything
abbrev pub equal_amounts : ℕ → Amounts
equal_amounts amount = record {
  instances = amount;
  containers = amount;
  machines = amount;
  cpu = amount;
  memory = amount;
  processes = amount;
  disk = amount;
}

-- the limit that is told, or none where all fits
abbrev pub Told : Type 0
Told = Option (LimitKey × ℕ)

-- what is told where so much is used and asked for
abbrev pub told_over : ℕ → ℕ → Told → Option Over
told_over used asked None = None
told_over used asked (Some told) = Some (record { key = told.0; used = used; asked = asked; limit = told.1 })

-- each sum, with a limit of 10 on it alone
abbrev pub tens : List (LimitKey × Limits)
tens =
    (key.Instances, record no_limits { instances = Some 10 })
    ∷ (key.Containers, record no_limits { containers = Some 10 })
    ∷ (key.Machines, record no_limits { machines = Some 10 })
    ∷ (key.Cpu, record no_limits { cpu = Some 10 })
    ∷ (key.Memory, record no_limits { memory = Some 10 })
    ∷ (key.Processes, record no_limits { processes = Some 10 })
    ∷ (key.Disk, record no_limits { disk = Some 10 })
    ∷ []

-- the most that a `u64` holds
abbrev pub most : ℕ
most = 2 ^ 64 - 1

-- what is used and what is asked for of each sum, and whether it fits under a limit of 10
abbrev pub shares : List (ℕ × ℕ × Bool)
shares =
    (6, 3, true)
    ∷ (6, 4, true)
    ∷ (10, 0, true)
    ∷ (0, 10, true)
    ∷ (6, 5, false)
    ∷ (10, 1, false)
    ∷ (11, 0, false)
    ∷ (0, most, false)
    ∷ []

-- what is wanted of a share under a limit of 10
abbrev pub told_of_share : LimitKey → ℕ × ℕ × Bool → Option Over
told_of_share limit share = told_over share.0 share.1 (if share.2 then None else Some (limit, 10))

-- limits, what is used and what is asked for of everything, and what is told: the first limit of two that are exceeded,
-- none where there is none, and that on networks for no sum; two gibibytes take two times one, and not one byte more
abbrev pub told : List (Limits × ℕ × ℕ × Told)
told =
    (containers_and_memory, 6, 5, Some (key.Containers, 10))
    ∷ (no_limits, most, most, None)
    ∷ (networks, 6, 5, None)
    ∷ (two_gibibytes, 0, 1073741824, None)
    ∷ (two_gibibytes, 1073741824, 1073741824, None)
    ∷ (two_gibibytes, 2147483648, 1, Some (key.Memory, 2147483648))
    ∷ []

-- the same of the number of networks
abbrev pub told_of_networks : List (Limits × ℕ × ℕ × Told)
told_of_networks =
    (networks, 9, 0, None)
    ∷ (networks, 9, 1, None)
    ∷ (networks, 10, 1, Some (key.Networks, 10))
    ∷ (no_limits, 10, 1, None)
    ∷ []

-- every case
pub record LimitsHold : Type 0 where
  pub limits_are_read : Gives (λ rows. limits_of (settings rows)) read
  pub instances_count : Agree (λ row. instance_amounts row.0 row.1.0 row.1.1) (λ row. row.2) counted
  pub root_disks_count : Gives (λ disks. (instance_amounts kind.Container [] (devices disks)).disk) root_disks
  pub limited_sums_need_numbers : Agree (λ row. first_without_amount row.0 row.1 row.2.0 row.2.1)
      (λ row. row.3) countable
  pub unlimited_sums_do_not : Agree (λ row. first_without_amount no_limits row.1 row.2.0 row.2.1)
      (λ row. None) countable
  pub volumes_count : Agree (λ row. (volume_amounts (settings row.1)).disk) (λ row. row.2) volumes
  pub limited_volumes_need_sizes : Agree (λ row. volume_without_amount row.0 (settings row.1)) (λ row. row.3) volumes
  pub shares_fit : Agree
      (λ ten. map (λ share. first_over ten.1 (equal_amounts share.0) (equal_amounts share.1)) shares)
      (λ ten. map (told_of_share ten.0) shares) tens
  pub first_is_told : Agree (λ row. first_over row.0 (equal_amounts row.1) (equal_amounts row.2))
      (λ row. told_over row.1 row.2 row.3) told
  pub networks_are_told : Agree (λ row. networks_over row.0 row.1 row.2) (λ row. told_over row.1 row.2 row.3)
      told_of_networks
