-- The rules on limits by what counts before and after a change, apart from the states; and projects without a limit.
use Rattle.std.specs.Prelude.{◌≡◌, ℕ, Bool, false, ◌||◌, List, [], ◌∷◌, Option, is_some, filter, length, ◌⊎◌}
use Rattle.std.specs.List.{sum_by, list_any}
use Rattle.std.specs.Str.{bytes_eq}
use Rattle.plain_lists.specs.Firsts.{first, first_of}
use Rattle.size_values.specs.declared.amounts.Part.{Part}
use Rattle.project_limits.specs.Admission.{key_of, limit_on, parts}
use Rattle.project_limits.specs.Limits.{limits_of}
use Rattle.project_limits.specs.Pools.{limits_pools}
use Rattle.project_limits.specs.declared.admission.LimitKey.TheVariants.{Networks}
use Rattle.project_limits.specs.declared.limits.Limits.{Limits}
use Rattle.records.specs.declared.refusals.Refusal.{Refusal}
use Rattle.records.specs.declared.rows.Network.{Network}
use Rattle.records.specs.declared.rows.Project.{Project}
use Rattle.records.specs.declared.rows.Row.{Row}
use Rattle.records.specs.declared.rows.Row.TheVariants as row
use Rattle.row_machine.specs.declared.changes.RowChange.{RowChange}
use Rattle.row_machine.specs.declared.changes.RowChange.TheVariants as change
use Rattle.row_machine.specs.machine.State.{State}
use Rattle.row_machine.specs.machine.Usage.{Load, loads, amount_for}
use Rattle.row_machine.specs.machine.LimitRules.{limit_exceeded}
use Rattle.row_readings.specs.PoolLimits.{all_limits}
use Rattle.rules_limits.specs.Counting.{Counts, counts_in}
use Rattle.rules_limits.specs.Pools.{pools_over}

-- one part of what a project uses
abbrev pub part_over : List Load → List Load → Part → Project → Option Refusal
part_over before after a_part project =
    limit_exceeded project (key_of a_part) (limit_on a_part (limits_of project.config))
    (sum_by (amount_for project.name a_part) before)
    (sum_by (amount_for project.name a_part) after)

-- the first part, and the first project at which it is exceeded
abbrev pub parts_over : List Load → List Load → List Project → Option Refusal
parts_over before after projects = first_of (λ a_part. first_of (part_over before after a_part) projects) parts

-- its number of networks
abbrev pub networks_over : List (List ℕ) → List Network → Project → Option Refusal
networks_over before after project =
    limit_exceeded project Networks (limits_of project.config).networks
    (length (filter (λ name. bytes_eq name project.name) before))
    (length (filter (λ network. bytes_eq network.project project.name) after))

-- whether one of the sums is limited to which settings of instances and volumes give the numbers
abbrev pub limits_sum : Limits → Bool
limits_sum limits = is_some limits.cpu || is_some limits.memory || is_some limits.processes || is_some limits.disk

-- whether there is any limit but those on pools
abbrev pub limits_any : Limits → Bool
limits_any limits =
    is_some limits.instances
    || is_some limits.containers
    || is_some limits.machines
    || is_some limits.networks
    || limits_sum limits

-- whether a project has any limit, on pools too
abbrev pub is_limited : Project → Bool
is_limited project = limits_any (limits_of project.config) || limits_pools project.config

-- whether it has one for which instances and volumes give numbers
abbrev pub needs_numbers : Project → Bool
needs_numbers project = limits_sum (limits_of project.config) || limits_pools project.config

-- whether one of the projects has a limit
abbrev pub is_any_limited : List Project → Bool
is_any_limited projects = list_any is_limited projects

-- whether a row is a project with a limit
abbrev pub is_limited_row : Row → Bool
is_limited_row (row.Project project) = is_limited project
is_limited_row other = false

-- whether a change puts a project with a limit
abbrev pub sets_limit : RowChange → Bool
sets_limit (change.Put row) = is_limited_row row
sets_limit (change.Remove of key) = false

-- What was counted serves to judge the limits of a later state: it is what counted in the state before, or no project
-- of the later one has a limit.
abbrev pub Serves : Counts → State → State → Type 0
Serves counts before after = (counts ≡ counts_in before) ⊎ (is_any_limited after.projects ≡ false)

-- the first part that is exceeded, or else the number of networks, or else a pool, by what counted before
abbrev pub all_over : Counts → State → Option Refusal
all_over before after = first
    (parts_over before.loads (loads after) after.projects
    ∷ first_of (networks_over before.networks after.networks) after.projects
    ∷ pools_over before.loads (loads after) (all_limits after.projects)
    ∷ [])
