-- The rules on limits of one project, by what it used before a change and what it uses after it; and for a new operation,
-- by its share above what is used.
use Rattle.std.specs.Prelude.{ℕ, ◌+◌, ◌==◌, List, [], ◌∷◌, Option, None, if◌then◌else◌}
use Rattle.std.specs.Option.{option_and_then}
use Rattle.plain_lists.specs.Firsts.{first, first_of}
use Rattle.size_values.specs.Amounts.{nothing, fits_in, plus_of}
use Rattle.size_values.specs.declared.amounts.Amounts.{Amounts}
use Rattle.size_values.specs.declared.pool_part.PoolPart.{PoolPart}
use Rattle.project_limits.specs.Admission.{parts}
use Rattle.project_limits.specs.Limits.{limits_of}
use Rattle.project_limits.specs.Pools.{pool_limit}
use Rattle.project_limits.specs.declared.admission.LimitKey.TheVariants.{Networks}
use Rattle.records.specs.declared.refusals.Refusal.{Refusal}
use Rattle.records.specs.declared.rows.Project.{Project}
use Rattle.row_machine.specs.machine.LimitRules.{claim_without_amount, limit_exceeded, pool_limit_exceeded}
use Rattle.row_machine.specs.machine.Rows.{project_named}
use Rattle.row_machine.specs.machine.State.{State}
use Rattle.row_machine.specs.machine.Task.{Task}
use Rattle.row_readings.specs.declared.amounts.Footprint.{Footprint}
use Rattle.row_readings.specs.declared.pool_limits.PoolLimit.{PoolLimit}
use Rattle.rules_limits.specs.Pools.{pool_line_over, pool_lines}
use Rattle.rules_limits.specs.Sums.{line_over}
use Rattle.rules_limits.specs.declared.one_operation.Beside.{Beside}
use Rattle.rules_limits.specs.declared.one_project.InUse.{InUse}

-- L1 to L7: the first part of what the project used, and uses, that exceeds its limit
abbrev pub amounts_over : Amounts → Amounts → Project → Option Refusal
amounts_over before after project = first_of (λ a_part. line_over a_part (project, (before, after))) parts

-- L8: its number of networks
abbrev pub network_use_over : ℕ → ℕ → Project → Option Refusal
network_use_over before after project =
    limit_exceeded project Networks (limits_of project.config).networks before after

-- L9: the first pool of which what the project used, and uses, exceeds the limit
abbrev pub pool_uses_over : List PoolLimit → List ℕ → List ℕ → Option Refusal
pool_uses_over limits before after = first_of pool_line_over (pool_lines limits before after)

-- the first part that is exceeded, or else the number of networks, or else one of these pools
abbrev pub uses_over : List PoolLimit → InUse → InUse → Project → Option Refusal
uses_over limits before after project = first
    (amounts_over before.amounts after.amounts project
    ∷ network_use_over before.networks after.networks project
    ∷ pool_uses_over limits before.pools after.pools
    ∷ [])

-- ---- a share

-- Amounts above what is used: those that are nothing exceed no limit.
abbrev pub asked_over : Amounts → Amounts → Project → Option Refusal
asked_over used asked project =
    if fits_in asked nothing then None else amounts_over used (plus_of used asked) project

-- A part on a pool above what is used there: one that is nothing exceeds no limit.
abbrev pub part_over : ℕ → PoolPart → Project → Option Refusal
part_over used part project = if part.disk == 0 then None else pool_limit_exceeded project.name part.pool
    (pool_limit project.config part.pool) used (used + part.disk)

-- A share, which may ask for a pool alone.
abbrev pub share_over : Beside → Footprint → Project → Option Refusal
share_over used share project = first
    (asked_over used.amounts share.amounts project ∷ part_over used.on_pool share.on project ∷ [])

-- a rule on the project of a name, which one that is not there does not break
abbrev pub of_project : {R : Type 0} → (Project → Option R) → List Project → List ℕ → Option R
of_project rule projects name = option_and_then rule (project_named projects name)

-- the limit on a pool of the project of a name, if it is there and sets one
abbrev pub limit_on_pool : List Project → List ℕ → List ℕ → Option ℕ
limit_on_pool projects name pool = of_project (λ project. pool_limit project.config pool) projects name

-- L0 for a new operation: what it would put gives no number for a sum that the project of a name limits.
abbrev pub claim_lacks_amount : State → List ℕ → Task → Option Refusal
claim_lacks_amount state name task = of_project (λ project. claim_without_amount state project task) state.projects name

-- L1 to L7 and L9 for a new operation: the first limit of the project of a name that what it uses and a share exceed
-- together.
abbrev pub share_broken : List Project → List ℕ → Beside → Footprint → Option Refusal
share_broken projects name used share = of_project (share_over used share) projects name
