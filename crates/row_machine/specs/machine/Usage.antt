-- How much of its limits a project uses, summed anew from its rows and from what live operations claim.
use Rattle.std.specs.Prelude.{◌++◌, if◌then◌else◌}
use Rattle.row_machine.specs.Words.{ℕ, List, map, filter, length, Option, option_map, sum_by, bytes_eq, part, Amounts}
use Rattle.row_machine.specs.Words.{Part, Part as part_of, Volume, Instance, PoolPart, on_pool}
use Rattle.row_machine.specs.Estate.{Task, State}
use Rattle.row_machine.specs.machine.Claims.{of_live, amounts_of_instance, amounts_of_volume, part_of_instance}
use Rattle.row_machine.specs.machine.Claims.{part_of_volume, part_of_share, share_of, project_of_row}

-- what counts for a project: amounts, and of their disk what is on a pool
pub record Load : Type 0 where
  pub project : List ℕ
  pub amounts : Amounts
  pub on : PoolPart

abbrev pub instance_load : State → Instance → Load
instance_load state instance = record {
  project = instance.project;
  amounts = amounts_of_instance state instance;
  on = part_of_instance state instance;
}

abbrev pub volume_load : Volume → Load
volume_load volume =
    record { project = volume.project; amounts = amounts_of_volume volume; on = part_of_volume volume }

-- a live operation counts for the project of its claimed row, with its share
abbrev pub claim_load : State → Task → Option Load
claim_load state task =
    option_map
    (λ new. record { project = project_of_row new; amounts = share_of state task; on = part_of_share state task })
    task.claim

-- all that counts: instances, volumes, and the shares of live operations
unfoldable pub loads : State → List Load
loads state =
    map (instance_load state) state.instances ++ map volume_load state.volumes ++ of_live (claim_load state) state

abbrev pub amount_for : List ℕ → Part → Load → ℕ
amount_for project a_part load = if bytes_eq load.project project then part a_part load.amounts else 0

abbrev pub used : State → List ℕ → Part → ℕ
used state project part = sum_by (amount_for project part) (loads state)

-- what a load has on a pool for a project
abbrev pub on_pool_for : List ℕ → List ℕ → Load → ℕ
on_pool_for project pool load = if bytes_eq load.project project then on_pool pool load.on else 0

-- what a project uses of a pool
abbrev pub used_on : State → List ℕ → List ℕ → ℕ
used_on state project pool = sum_by (on_pool_for project pool) (loads state)

unfoldable pub usage_of : State → List ℕ → Amounts
usage_of state project = record {
  instances = used state project part_of.Instances;
  containers = used state project part_of.Containers;
  machines = used state project part_of.Machines;
  cpu = used state project part_of.Cpu;
  memory = used state project part_of.Memory;
  processes = used state project part_of.Processes;
  disk = used state project part_of.Disk;
}

unfoldable pub networks_of : State → List ℕ → ℕ
networks_of state project = length (filter (λ network. bytes_eq network.project project) state.networks)
