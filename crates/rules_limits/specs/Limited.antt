-- A project with its limits, which were read off its settings once.
use Rattle.std.specs.Prelude.{◌≡◌, ℕ, Bool, false, List, [], Option, option_map}
use Rattle.std.specs.Option.{option_map_or}
use Rattle.project_limits.specs.Limits.{limits_of}
use Rattle.project_limits.specs.declared.limits.Limits.{Limits}
use Rattle.records.specs.declared.rows.Project.{Project}
use Rattle.row_machine.specs.machine.Rows.{project_named}
use Rattle.row_readings.specs.PoolLimits.{own_limits}
use Rattle.row_readings.specs.declared.pool_limits.PoolLimit.{PoolLimit}
use Rattle.rules_limits.specs.AllProjects.{is_limited}
use Rattle.rules_limits.specs.declared.limited.Limited.TheInside.{Inside}

-- contracts see the project
abbrev pub project_in : Inside → Project
project_in limited = limited.project.now

-- its limits are those that its settings set
abbrev pub AreItsOwn : Inside → Type 0
AreItsOwn limited = limited.limits ≡ limits_of limited.project.now.config

-- the limits of the project of a name, if it is there
abbrev pub limits_named : List Project → List ℕ → Option Limits
limits_named projects name = option_map (λ project. limits_of project.config) (project_named projects name)

-- the limits on pools of the project of a name; of one that is not there none
abbrev pub pools_named : List Project → List ℕ → List PoolLimit
pools_named projects name = option_map_or own_limits (project_named projects name) []

-- whether the project of a name has a limit
abbrev pub has_limits : List Project → List ℕ → Bool
has_limits projects name = option_map_or is_limited (project_named projects name) false
