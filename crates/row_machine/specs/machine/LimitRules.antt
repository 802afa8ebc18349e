-- Rules on limits: L0 to L9. Each project's usage, with what live operations claim, stands within its limits.
use Rattle.std.specs.Prelude.{◌∷◌, ◌++◌}
use Rattle.row_machine.specs.Words.{Expanded, ℕ, List, [], filter, Option, codes, option_map, option_to_list, bytes_eq}
use Rattle.row_machine.specs.Words.{first, first_of, amount_above, Part, LimitKey, Instances, Containers, Machines, Cpu}
use Rattle.row_machine.specs.Words.{Memory, Processes, Disk, Networks, DiskOnPool, Over, SumKey, exceeded, limit_on, parts}
use Rattle.row_machine.specs.Words.{limited_pools, pool_key, pool_limit, pool_without_size, volume_pool_without_size}
use Rattle.row_machine.specs.Words.{first_without_amount, volume_without_amount, limits_of, Rule, Refusal, Rule as rule}
use Rattle.row_machine.specs.Words.{SumKey as sum, key_of_part, Project, Volume, Instance}
use Rattle.row_machine.specs.Estate.{Task, State, expanded_of, no_details, on_key_of}
use Rattle.row_machine.specs.Readings.{claimed_instance, claimed_volume, used, used_on, networks_of}

-- the rule by which a limit refuses, and its key; that of a limit on a pool goes on with the pool's name
pub record LimitLine : Type 0 where
  pub rule : Rule
  pub key : List ℕ

-- The table.
abbrev pub limit_line : LimitKey → LimitLine
limit_line Instances = record { rule = rule.L1; key = codes "limits.instances" }
limit_line Containers = record { rule = rule.L2; key = codes "limits.containers" }
limit_line Machines = record { rule = rule.L3; key = codes "limits.virtual-machines" }
limit_line Cpu = record { rule = rule.L4; key = codes "limits.cpu" }
limit_line Memory = record { rule = rule.L5; key = codes "limits.memory" }
limit_line Processes = record { rule = rule.L6; key = codes "limits.processes" }
limit_line Disk = record { rule = rule.L7; key = codes "limits.disk" }
limit_line Networks = record { rule = rule.L8; key = codes "limits.networks" }
limit_line DiskOnPool = record { rule = rule.L9; key = codes "limits.disk.pool." }

abbrev pub limit_rule : LimitKey → Rule
limit_rule key = (limit_line key).rule

abbrev pub limit_text : LimitKey → List ℕ
limit_text key = (limit_line key).key

abbrev pub sum_text : SumKey → List ℕ
sum_text sum.Cpu = limit_text Cpu
sum_text sum.Memory = limit_text Memory
sum_text sum.Processes = limit_text Processes
sum_text sum.Disk = limit_text Disk

abbrev pub object_without_amount : Project → List ℕ → Option SumKey → Option Refusal
object_without_amount project name key = option_map (λ sum. on_key_of rule.L0 (sum_text sum) name project.name) key

-- an object has no size on a limited pool
abbrev pub object_without_size : Project → List ℕ → Option (List ℕ) → Option Refusal
object_without_size project name pool =
    option_map (λ limited. on_key_of rule.L0 (pool_key limited) name project.name) pool

unfoldable pub instance_without_amount : State → Project → Instance → Option Refusal
instance_without_amount state project instance = first
    (object_without_amount project instance.name
    (first_without_amount (limits_of project.config) instance.kind expanded.config expanded.devices)
    ∷ object_without_size project instance.name (pool_without_size project.config expanded.devices)
    ∷ []) where
      expanded : Expanded
      expanded = expanded_of state.projects state.profiles instance

unfoldable pub volume_lacks_amount : Project → Volume → Option Refusal
volume_lacks_amount project volume = first
    (object_without_amount project volume.name (volume_without_amount (limits_of project.config) volume.config)
    ∷ object_without_size project volume.name
    (volume_pool_without_size project.config volume.pool volume.config)
    ∷ [])

abbrev pub claim_without_amount : State → Project → Task → Option Refusal
claim_without_amount state project task = first
    (first_of (instance_without_amount state project)
    (filter (λ instance. bytes_eq instance.project project.name) (option_to_list (claimed_instance task)))
    ∷ first_of (volume_lacks_amount project)
    (filter (λ volume. bytes_eq volume.project project.name) (option_to_list (claimed_volume task)))
    ∷ [])

abbrev pub project_without_amount : State → Project → Option Refusal
project_without_amount state project = first
    (first_of (instance_without_amount state project)
    (filter (λ instance. bytes_eq instance.project project.name) state.instances)
    ∷ first_of (volume_lacks_amount project) (filter (λ volume. bytes_eq volume.project project.name) state.volumes)
    ∷ first_of (λ operation. claim_without_amount state project operation.work) state.operations.live
    ∷ [])

-- L0: a setting gives no number for a limited sum, at the first project and there its first object.
unfoldable pub counts_broken : State → Option Refusal
counts_broken state = first_of (project_without_amount state) state.projects

abbrev pub over_refusal : Project → Over → Refusal
over_refusal project over = record {
  rule = limit_rule over.key;
  details = record no_details {
    asked = over.asked;
    key = limit_text over.key;
    limit = over.limit;
    project = project.name;
    used = over.used;
  };
}

-- Of one number: what is used before, and what the change asks for above it, together exceed the limit.
abbrev pub limit_exceeded : Project → LimitKey → Option ℕ → ℕ → ℕ → Option Refusal
limit_exceeded project key limit before after =
    option_map (over_refusal project) (exceeded key limit before (amount_above after before))

unfoldable pub part_exceeds : State → State → Part → Project → Option Refusal
part_exceeds state after part project =
    limit_exceeded project (key_of_part part) (limit_on part (limits_of project.config)) (used state project.name part)
    (used after project.name part)

unfoldable pub networks_exceed : State → State → Project → Option Refusal
networks_exceed state after project =
    limit_exceeded project Networks (limits_of project.config).networks (networks_of state project.name)
    (networks_of after project.name)

-- a refusal by the limit of a project on a pool
abbrev pub pool_refusal : List ℕ → List ℕ → Over → Refusal
pool_refusal project pool over = record {
  rule = limit_rule over.key;
  details = record no_details {
    asked = over.asked;
    key = limit_text over.key ++ pool;
    limit = over.limit;
    project = project;
    used = over.used;
  };
}

-- Of one pool: what a project uses of it before, and what the change asks for above it, together exceed its limit there.
abbrev pub pool_limit_exceeded : List ℕ → List ℕ → Option ℕ → ℕ → ℕ → Option Refusal
pool_limit_exceeded project pool limit before after =
    option_map (pool_refusal project pool) (exceeded DiskOnPool limit before (amount_above after before))

abbrev pub pool_exceeds : State → State → Project → List ℕ → Option Refusal
pool_exceeds state after project pool =
    pool_limit_exceeded project.name pool (pool_limit project.config pool) (used_on state project.name pool)
    (used_on after project.name pool)

-- L9: the first pool, by its name, whose limit is exceeded
unfoldable pub pools_exceed : State → State → Project → Option Refusal
pools_exceed state after project = first_of (pool_exceeds state after project) (limited_pools project.config)

-- L1 to L9: the first limit that is exceeded, and the first project at which it is. The limits are those after the
-- change.
unfoldable pub limits_broken : State → State → Option Refusal
limits_broken state after = first
    (first_of (λ part. first_of (part_exceeds state after part) after.projects) parts
    ∷ first_of (networks_exceed state after) after.projects
    ∷ first_of (pools_exceed state after) after.projects
    ∷ [])
