-- Where a limit on a sum is set, each instance and volume has to give a number for it.
use Rattle.std.specs.Prelude.{ℕ, ◌&&◌, if◌then◌else◌, List, [], ◌∷◌, Option, Some, None, is_some, is_none, codes}
use Rattle.size_values.specs.declared.kinds.Kind.{Kind}
use Rattle.plain_lists.specs.Firsts.{first_of}
use Rattle.config_lists.specs.Devices.{NamedDevices}
use Rattle.config_lists.specs.Settings.{Settings}
use Rattle.project_limits.specs.Instance.{counted}
use Rattle.project_limits.specs.Limits.{size_in}
use Rattle.project_limits.specs.declared.sums.SumKey.{SumKey}
use Rattle.project_limits.specs.declared.sums.SumKey.TheVariants.{Cpu, Memory, Processes, Disk}
use Rattle.project_limits.specs.declared.limits.Limits.{Limits}

-- the limit on a sum, if it is set
abbrev pub sum_limit : SumKey → Limits → Option ℕ
sum_limit Cpu limits = limits.cpu
sum_limit Memory limits = limits.memory
sum_limit Processes limits = limits.processes
sum_limit Disk limits = limits.disk

-- the sums in the order in which they are judged
abbrev pub sums : List SumKey
sums = Cpu ∷ Memory ∷ Processes ∷ Disk ∷ []

-- a sum that is limited although there is no number for it
abbrev pub without_amount : SumKey → Option ℕ → Option ℕ → Option SumKey
without_amount key limit number = if is_some limit && is_none number then Some key else None

-- the first sum whose limit is set and for which an instance gives no number
unfoldable pub first_without_amount : Limits → Kind → Settings → NamedDevices → Option SumKey
first_without_amount limits kind config devices =
    first_of (λ key. without_amount key (sum_limit key limits) (counted key kind config devices)) sums

-- the same of a volume, which counts for the sum of disks alone
unfoldable pub volume_without_amount : Limits → Settings → Option SumKey
volume_without_amount limits config = without_amount Disk limits.disk (size_in config (codes "size"))
