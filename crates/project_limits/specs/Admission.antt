-- Whether what is asked for fits under the limits together with what is used.
use Rattle.std.specs.Prelude.{ℕ, ◌+◌, nat_lt, if◌then◌else◌, List, [], ◌∷◌, Option, Some, None}
use Rattle.plain_lists.specs.Firsts.{first_of}
use Rattle.size_values.specs.Amounts.{part}
use Rattle.size_values.specs.declared.amounts.Amounts.{Amounts}
use Rattle.size_values.specs.declared.amounts.Part.{Part}
use Rattle.size_values.specs.declared.amounts.Part.TheVariants as part_of
use Rattle.project_limits.specs.declared.admission.LimitKey.{LimitKey}
use Rattle.project_limits.specs.declared.admission.LimitKey.TheVariants.{Instances, Containers, Machines, Cpu, Memory}
use Rattle.project_limits.specs.declared.admission.LimitKey.TheVariants.{Processes, Disk, Networks}
use Rattle.project_limits.specs.declared.admission.Over.{Over}
use Rattle.project_limits.specs.declared.limits.Limits.{Limits}

-- the limit on a part, if it is set
abbrev pub limit_on : Part → Limits → Option ℕ
limit_on part_of.Instances limits = limits.instances
limit_on part_of.Containers limits = limits.containers
limit_on part_of.Machines limits = limits.machines
limit_on part_of.Cpu limits = limits.cpu
limit_on part_of.Memory limits = limits.memory
limit_on part_of.Processes limits = limits.processes
limit_on part_of.Disk limits = limits.disk

-- the key of that limit
abbrev pub key_of : Part → LimitKey
key_of part_of.Instances = Instances
key_of part_of.Containers = Containers
key_of part_of.Machines = Machines
key_of part_of.Cpu = Cpu
key_of part_of.Memory = Memory
key_of part_of.Processes = Processes
key_of part_of.Disk = Disk

-- the parts in the order in which their limits are judged
abbrev pub parts : List Part
parts = part_of.Instances ∷ part_of.Containers ∷ part_of.Machines ∷ part_of.Cpu ∷ part_of.Memory ∷ part_of.Processes
    ∷ part_of.Disk ∷ []

-- what is used and what is asked for are together above a set limit
abbrev pub exceeded : LimitKey → Option ℕ → ℕ → ℕ → Option Over
exceeded key None used asked = None
exceeded key (Some limit) used asked =
    if nat_lt limit (used + asked) then Some (record { key = key; used = used; asked = asked; limit = limit }) else None

-- the first part of which that is so
unfoldable pub first_over : Limits → Amounts → Amounts → Option Over
first_over limits used asked =
    first_of (λ a_part. exceeded (key_of a_part) (limit_on a_part limits) (part a_part used) (part a_part asked)) parts

-- the same of the number of networks
unfoldable pub networks_over : Limits → ℕ → ℕ → Option Over
networks_over limits used asked = exceeded Networks limits.networks used asked
