use Rattle.std.specs.Prelude.{ℕ, ◌+◌, ◌-◌, Bool, ◌&&◌, if◌then◌else◌, nat_lt, nat_le}
use Rattle.size_values.specs.declared.amounts.Amounts.{Amounts}
use Rattle.size_values.specs.declared.amounts.Part.{Part}
use Rattle.size_values.specs.declared.amounts.Part.TheVariants.{Instances, Containers, Machines, Cpu, Memory, Processes}
use Rattle.size_values.specs.declared.amounts.Part.TheVariants.{Disk}

-- one part of the amounts
abbrev pub part : Part → Amounts → ℕ
part Instances amounts = amounts.instances
part Containers amounts = amounts.containers
part Machines amounts = amounts.machines
part Cpu amounts = amounts.cpu
part Memory amounts = amounts.memory
part Processes amounts = amounts.processes
part Disk amounts = amounts.disk

-- no amount of anything
abbrev pub nothing : Amounts
nothing = record { instances = 0; containers = 0; machines = 0; cpu = 0; memory = 0; processes = 0; disk = 0 }

-- both together, part by part
unfoldable pub plus_of : Amounts → Amounts → Amounts
plus_of amounts others = record {
  instances = amounts.instances + others.instances;
  containers = amounts.containers + others.containers;
  machines = amounts.machines + others.machines;
  cpu = amounts.cpu + others.cpu;
  memory = amounts.memory + others.memory;
  processes = amounts.processes + others.processes;
  disk = amounts.disk + others.disk;
}

-- what is left of the amounts without those taken, part by part
unfoldable pub minus_of : Amounts → Amounts → Amounts
minus_of amounts taken = record {
  instances = amounts.instances - taken.instances;
  containers = amounts.containers - taken.containers;
  machines = amounts.machines - taken.machines;
  cpu = amounts.cpu - taken.cpu;
  memory = amounts.memory - taken.memory;
  processes = amounts.processes - taken.processes;
  disk = amounts.disk - taken.disk;
}

-- by how much one number is above another, and 0 where it is not
abbrev pub amount_above : ℕ → ℕ → ℕ
amount_above amount bound = if nat_lt bound amount then amount - bound else 0

-- by how much the amounts are above the bounds, part by part
unfoldable pub excess_of : Amounts → Amounts → Amounts
excess_of amounts bounds = record {
  instances = amount_above amounts.instances bounds.instances;
  containers = amount_above amounts.containers bounds.containers;
  machines = amount_above amounts.machines bounds.machines;
  cpu = amount_above amounts.cpu bounds.cpu;
  memory = amount_above amounts.memory bounds.memory;
  processes = amount_above amounts.processes bounds.processes;
  disk = amount_above amounts.disk bounds.disk;
}

-- no part of the amounts is greater than that part of the bounds
unfoldable pub fits_in : Amounts → Amounts → Bool
fits_in amounts bounds =
    nat_le amounts.instances bounds.instances
    && nat_le amounts.containers bounds.containers
    && nat_le amounts.machines bounds.machines
    && nat_le amounts.cpu bounds.cpu
    && nat_le amounts.memory bounds.memory
    && nat_le amounts.processes bounds.processes
    && nat_le amounts.disk bounds.disk
