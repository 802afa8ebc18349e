-- What live operations claim: the rows that they would put, and the shares of limits that they hold for them.
use Rattle.std.specs.Prelude.{◌++◌, if◌then◌else◌}
use Rattle.row_machine.specs.Words.{ℕ, List, [], Option, Some, None, option_and_then, filter_map, option_map_or}
use Rattle.row_machine.specs.Words.{bytes_eq, excess_of, Amounts, Expanded, instance_amounts, volume_amounts, Row}
use Rattle.row_machine.specs.Words.{Row as row, no_amounts, Volume, Instance, Snapshot, PoolPart, no_part, part_above}
use Rattle.row_machine.specs.Words.{root_part, sized_part}
use Rattle.row_machine.specs.Estate.{Task, State, instance_named, expanded_of}

-- the instance, the volume or the snapshot that an operation would put
abbrev pub claimed_instance : Task → Option Instance
claimed_instance task = option_and_then instance_in task.claim where
  instance_in : Row → Option Instance
  instance_in (row.Instance instance) = Some instance
  instance_in other = None

abbrev pub claimed_volume : Task → Option Volume
claimed_volume task = option_and_then volume_in task.claim where
  volume_in : Row → Option Volume
  volume_in (row.Volume volume) = Some volume
  volume_in other = None

abbrev pub claimed_snapshot : Task → Option Snapshot
claimed_snapshot task = option_and_then snapshot_in task.claim where
  snapshot_in : Row → Option Snapshot
  snapshot_in (row.Snapshot snapshot) = Some snapshot
  snapshot_in other = None

-- what is read off each live operation, in the order of their numbers
abbrev pub of_live : {X : Type 0} → (Task → Option X) → State → List X
of_live read state = filter_map (λ operation. read operation.work) state.operations.live

-- each instance or volume that there is or would be
unfoldable pub judged_instances : State → List Instance
judged_instances state = state.instances ++ of_live claimed_instance state

unfoldable pub judged_volumes : State → List Volume
judged_volumes state = state.volumes ++ of_live claimed_volume state

unfoldable pub amounts_of_instance : State → Instance → Amounts
amounts_of_instance state instance = amounts (expanded_of state.projects state.profiles instance) where
  amounts : Expanded → Amounts
  amounts expanded = instance_amounts instance.kind expanded.config expanded.devices

abbrev pub amounts_of_volume : Volume → Amounts
amounts_of_volume volume = volume_amounts volume.config

-- what a row counts for; only instances and volumes do
abbrev pub amounts_of : State → Row → Amounts
amounts_of state (row.Instance instance) = amounts_of_instance state instance
amounts_of state (row.Volume volume) = amounts_of_volume volume
amounts_of state other = no_amounts

-- what an instance has on the pool of its root disk
unfoldable pub part_of_instance : State → Instance → PoolPart
part_of_instance state instance = root_part (expanded_of state.projects state.profiles instance).devices

abbrev pub part_of_volume : Volume → PoolPart
part_of_volume volume = sized_part volume.pool volume.config

-- what a row has on a pool
abbrev pub part_of_row : State → Row → PoolPart
part_of_row state (row.Instance instance) = part_of_instance state instance
part_of_row state (row.Volume volume) = part_of_volume volume
part_of_row state other = no_part

-- the project that a row belongs to; a pool belongs to none, and a project to itself
abbrev pub project_of_row : Row → List ℕ
project_of_row (row.Project project) = project.name
project_of_row (row.Profile profile) = profile.project
project_of_row (row.Network network) = network.project
project_of_row (row.Pool pool) = []
project_of_row (row.Volume volume) = volume.project
project_of_row (row.Instance instance) = instance.project
project_of_row (row.Snapshot snapshot) = snapshot.project

abbrev pub replaced_instance : State → Task → Option Instance
replaced_instance state task = option_and_then (λ names. instance_named state.instances names.0 names.1) task.replaces

-- what a claimed row counts for, above what the replaced instance does if that is of the same project
abbrev pub share_over : State → Row → Option Instance → Amounts
share_over state new None = amounts_of state new
share_over state new (Some old) =
    if bytes_eq old.project (project_of_row new)
    then excess_of (amounts_of state new) (amounts_of_instance state old)
    else amounts_of state new

-- The share of an operation by the rows as they stand: what its claimed row adds to the usage of that row's project.
unfoldable pub share_of : State → Task → Amounts
share_of state task = option_map_or (λ new. share_over state new (replaced_instance state task)) task.claim no_amounts

-- what a claimed row has on its pool, above what the replaced instance has there if that is of the same project
abbrev pub part_over : State → Row → Option Instance → PoolPart
part_over state new None = part_of_row state new
part_over state new (Some old) =
    if bytes_eq old.project (project_of_row new)
    then part_above (part_of_row state new) (part_of_instance state old)
    else part_of_row state new

-- the part of that share on a pool: of the one pool on which it can be above nothing, that of the claimed row
unfoldable pub part_of_share : State → Task → PoolPart
part_of_share state task =
    option_map_or (λ new. part_over state new (replaced_instance state task)) task.claim no_part
