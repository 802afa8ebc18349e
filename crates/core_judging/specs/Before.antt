-- What changes are judged by, besides the state after them.
use Rattle.std.specs.Prelude.{◌≡◌, ℕ, true, false, List, length, Option, Some, None, ◌⊎◌, if◌then◌else◌}
use Rattle.std.specs.Str.{bytes_eq}
use Rattle.size_values.specs.declared.kinds.ObjectKind.TheVariants as kind
use Rattle.records.specs.declared.rows.Project.{Project}
use Rattle.records.specs.declared.rows.Row.TheVariants as row
use Rattle.row_machine.specs.declared.changes.RowChange.{RowChange}
use Rattle.row_machine.specs.declared.changes.RowChange.TheVariants as change
use Rattle.row_machine.specs.machine.Changes.{applied}
use Rattle.row_machine.specs.machine.State.{State}
use Rattle.row_readings.specs.declared.pool_limits.PoolLimit.{PoolLimit}
use Rattle.core_totals.specs.NewProfile.{puts_new_profile}
use Rattle.core_totals.specs.OneProject.{in_use, project_within}
use Rattle.rules_limits.specs.AllProjects.{Serves}
use Rattle.rules_limits.specs.Limited.{has_limits, limits_named, pools_named}
use Rattle.rules_limits.specs.declared.one_project.InUse.{InUse}
use Rattle.core_judging.specs.declared.changing.Before.{Before}
use Rattle.core_judging.specs.declared.changing.Before.TheVariants as before
use Rattle.core_judging.specs.declared.one_project.OneProject.{OneProject}

-- It is what the project used before, of these pools too, or the project has no limit in the later state.
abbrev pub Knows : List ℕ → List PoolLimit → InUse → State → State → Type 0
Knows project pools used state later =
    (used ≡ in_use state project pools) ⊎ (has_limits later.projects project ≡ false)

-- The changes put one new profile, which is judged alone; or they are within one project, which is judged alone, by what
-- it used; or what was counted serves to judge the limits after them.
abbrev pub Judges : Before → State → List RowChange → Type 0
Judges before.NewProfile state changes = puts_new_profile state changes ≡ true
Judges (before.OneProject of) state changes =
    (project_within state changes ≡ Some of.name) × Knows of.name of.pools of.used state (applied state changes)
Judges (before.Counted counts) state changes = Serves counts state (applied state changes)

-- The limits of a project are those that it has in the later state, on pools too; and for each of these pools it is told
-- what was used of it.
pub record FitsProject (of : OneProject) (later : State) : Type 0 where
  pub limits : of.limits ≡ limits_named later.projects of.name
  pub pools : of.pools ≡ pools_named later.projects of.name
  pub lines : length of.used.pools ≡ length of.pools

-- of changes within one project its limits are known
abbrev pub FitsLimits : Before → State → Type 0
FitsLimits (before.OneProject of) later = FitsProject of later
FitsLimits other later = Unit {0}

-- the project of a name after a change, by what it was before
abbrev pub after_change : RowChange → List ℕ → Option Project → Option Project
after_change (change.Put (row.Project project)) name found = if bytes_eq project.name name then Some project else found
after_change (change.Remove kind.Project key) name found = if bytes_eq key name then None else found
after_change other name found = found
