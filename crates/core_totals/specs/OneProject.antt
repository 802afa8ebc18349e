-- Changes of the rows of one project are judged in that project alone.
use Rattle.std.specs.Prelude.{◌≡◌, ℕ, Bool, true, false, not, ◌&&◌, ◌||◌, List, [], ◌∷◌, filter, Option, Some, None}
use Rattle.std.specs.Prelude.{if◌then◌else◌, codes}
use Rattle.std.specs.List.{before_first, list_all, list_any}
use Rattle.std.specs.Option.{option_and_then, option_map_or, option_or}
use Rattle.std.specs.Str.{bytes_eq}
use Rattle.size_values.specs.declared.kinds.ObjectKind.{ObjectKind}
use Rattle.size_values.specs.declared.kinds.ObjectKind.TheVariants as kind
use Rattle.records.specs.declared.refusals.Refusal.{Refusal}
use Rattle.records.specs.declared.rows.Project.{Project}
use Rattle.records.specs.declared.rows.Row.TheVariants as row
use Rattle.row_codec.specs.Reading.{is_slash}
use Rattle.row_machine.specs.declared.changes.RowChange.{RowChange}
use Rattle.row_machine.specs.declared.changes.RowChange.TheVariants as change
use Rattle.row_machine.specs.facts.Whole.{IsWhole}
use Rattle.row_machine.specs.machine.Changes.{applied}
use Rattle.row_machine.specs.machine.Claims.{project_of_row}
use Rattle.row_machine.specs.machine.Homes.{is_on}
use Rattle.row_machine.specs.machine.LimitRules.{counts_broken, limits_broken, project_without_amount}
use Rattle.row_machine.specs.machine.PolicyRules.{policy_broken}
use Rattle.row_machine.specs.machine.Rows.{default_name}
use Rattle.row_machine.specs.machine.State.{State}
use Rattle.row_machine.specs.machine.Usage.{loads, usage_of, networks_of}
use Rattle.row_readings.specs.PoolLimits.{own_limits, pool_sums}
use Rattle.row_readings.specs.declared.pool_limits.PoolLimit.{PoolLimit}
use Rattle.rules_limits.specs.OneProject.{of_project, uses_over}
use Rattle.rules_limits.specs.declared.one_project.InUse.{InUse}
use Rattle.rules_policy.specs.Within.{policy_broken_in}

-- the project of a row by its key; a pool is of none
abbrev pub project_of_key : ObjectKind → List ℕ → List ℕ
project_of_key kind.Project key = key
project_of_key kind.Pool key = []
project_of_key other key = before_first is_slash key

-- the project whose row a change puts or removes
abbrev pub project_touched : RowChange → List ℕ
project_touched (change.Put new) = project_of_row new
project_touched (change.Remove of key) = project_of_key of key

-- whether a change puts or removes a profile
abbrev pub touches_profile : RowChange → Bool
touches_profile (change.Put (row.Profile profile)) = true
touches_profile (change.Remove kind.Profile key) = true
touches_profile other = false

-- whether another project than `default` has the profiles of `default`
abbrev pub are_profiles_shared : State → Bool
are_profiles_shared state = list_any
    (λ project. not (bytes_eq project.name default_name) && not (is_on project.config (codes "features.profiles")))
    state.projects

-- Whether a change touches rows of such projects alone, and none that instances of others have: those are only profiles
-- of the project `default`, where another one shares them.
abbrev pub touches_such : Bool → (List ℕ → Bool) → RowChange → Bool
touches_such shared such one =
    such (project_touched one) && not (touches_profile one && such default_name && shared)

-- it touches rows of this project alone
abbrev pub is_within : Bool → List ℕ → RowChange → Bool
is_within shared project = touches_such shared (λ name. bytes_eq name project)

-- it touches rows of these two projects alone
abbrev pub is_between : List ℕ → List ℕ → RowChange → Bool
is_between old new = touches_such true (λ name. bytes_eq name old || bytes_eq name new)

-- the project whose rows all changes touch
abbrev pub project_of_all : Bool → List RowChange → Option (List ℕ)
project_of_all shared [] = None
project_of_all shared (one ∷ more) =
    if list_all (is_within shared (project_touched one)) (one ∷ more) then Some (project_touched one) else None

-- the project whose row a change removes
abbrev pub project_removed : RowChange → Option (List ℕ)
project_removed (change.Remove kind.Project key) = Some key
project_removed other = None

-- the project whose row a change puts
abbrev pub project_put : RowChange → Option (List ℕ)
project_put (change.Put (row.Project project)) = Some project.name
project_put other = None

-- whether a change may follow when the project of the old name is gone: it does not come back
abbrev pub is_after_rename : List ℕ → List ℕ → RowChange → Bool
is_after_rename old new one =
    is_between old new one && not (option_map_or (λ put. bytes_eq put old) (project_put one) false)

-- the new name of a project whose row under the old one is gone: the first of these changes puts it
abbrev pub renamed_from : List ℕ → List RowChange → Option (List ℕ)
renamed_from old [] = None
renamed_from old (one ∷ more) = option_and_then
    (λ new. if list_all (is_after_rename old new) (one ∷ more) then Some new else None)
    (project_put one)

-- The new name of a project that gets one: its row is removed first, that under the new name is put next, and all changes
-- touch rows of these two names alone.
abbrev pub project_renamed : List RowChange → Option (List ℕ)
project_renamed [] = None
project_renamed (one ∷ more) = option_and_then (λ old. renamed_from old more) (project_removed one)

-- the project within which all changes are, which may get another name by them
abbrev pub project_within : State → List RowChange → Option (List ℕ)
project_within state changes = option_or (project_of_all (are_profiles_shared state) changes) (project_renamed changes)

-- the projects of a name
abbrev pub projects_of : State → List ℕ → List Project
projects_of state name = filter (λ project. bytes_eq project.name name) state.projects

-- what a project uses of its limits, and of these limited pools
abbrev pub in_use : State → List ℕ → List PoolLimit → InUse
in_use state project limits = record {
  amounts = usage_of state project;
  networks = networks_of state project;
  pools = pool_sums (loads state) limits;
}

-- L1 to L9 of a project, by what is used of its limits under a name before a change and after it
abbrev pub use_over : State → State → List ℕ → Project → Option Refusal
use_over state later name project = uses_over (own_limits project) (in_use state name (own_limits project))
    (in_use later name (own_limits project)) project

-- Where all facts hold, changes within a project leave all that others have and use: what the state after them breaks of
-- the rules on policy (F1 to F7), on what is counted (L0) and on limits (L1 to L9), it breaks in that project. Where that
-- gets another name, none is left under the old one.
pub record IsProjectJudgedAlone (state later : State) (project : List ℕ) : Type 0 where
  pub policy : policy_broken later ≡ policy_broken_in later (projects_of later project)
  pub counts : counts_broken later ≡ of_project (project_without_amount later) later.projects project
  pub limits : limits_broken state later ≡ of_project (use_over state later project) later.projects project

abbrev pub ProjectsAreJudgedAlone : Type 0
ProjectsAreJudgedAlone = (state : State) (changes : List RowChange) (project : List ℕ) → IsWhole state
    → project_within state changes ≡ Some project → IsProjectJudgedAlone state (applied state changes) project
