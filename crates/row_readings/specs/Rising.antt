-- Lists of rows that rise by their names, and where rows stand in them.
use Rattle.std.specs.Prelude.{◌≡◌, ℕ, Bool, true, false, List, [], ◌∷◌, filter, Some, None, Result, Ok, Err}
use Rattle.std.specs.Prelude.{if◌then◌else◌}
use Rattle.std.specs.Cmp.Lexicographic.{slice_cmp}
use Rattle.std.specs.List.{position, position_or_len}
use Rattle.std.specs.Ordering.{is_lt, nat_cmp}
use Rattle.std.specs.Str.{bytes_eq}
use Rattle.records.specs.declared.rows.Instance.{Instance}
use Rattle.records.specs.declared.rows.Network.{Network}
use Rattle.records.specs.declared.rows.Pool.{Pool}
use Rattle.records.specs.declared.rows.Profile.{Profile}
use Rattle.records.specs.declared.rows.Project.{Project}
use Rattle.records.specs.declared.rows.Snapshot.{Snapshot}
use Rattle.records.specs.declared.rows.Volume.{Volume}
use Rattle.row_machine.specs.facts.Whole.{Rise}
use Rattle.row_machine.specs.machine.Rows.{default_name, same_names, texts_before, project_names, profile_names}
use Rattle.row_machine.specs.machine.Rows.{network_names}
use Rattle.row_machine.specs.machine.Rows.{pool_names, volume_names, instance_names, snapshot_names, power_names}
use Rattle.row_machine.specs.machine.State.{State, InstancePower}
use Rattle.row_readings.specs.declared.named.Names.{Names}
use Rattle.row_readings.specs.declared.named.Names.TheVariants as names_of

-- lists of each kind of rows, and of statuses, that rise by their names
pub record Rising
    (of_projects : List Project) (of_profiles : List Profile) (of_networks : List Network) (of_pools : List Pool)
    (of_volumes : List Volume) (of_instances : List Instance) (of_snapshots : List Snapshot)
    (of_powers : List InstancePower)
    : Type 0 where
  pub projects : Rise project_names of_projects
  pub profiles : Rise profile_names of_profiles
  pub networks : Rise network_names of_networks
  pub pools : Rise pool_names of_pools
  pub volumes : Rise volume_names of_volumes
  pub instances : Rise instance_names of_instances
  pub snapshots : Rise snapshot_names of_snapshots
  pub powers : Rise power_names of_powers

-- the rows of each kind, and the statuses, rise by their names
abbrev pub AreRising : State → Type 0
AreRising state =
    Rising state.projects state.profiles state.networks state.pools state.volumes state.instances state.snapshots
    state.powers

-- the names as the machine lists them
abbrev pub names_in : Names → List (List ℕ)
names_in (names_of.One first) = first.now ∷ []
names_in (names_of.Two first second) = first.now ∷ second.now ∷ []
names_in (names_of.Three first second third) = first.now ∷ second.now ∷ third.now ∷ []

-- whether the first of the names of a row is that of a project
abbrev pub begins_with : List ℕ → List (List ℕ) → Bool
begins_with project [] = false
begins_with project (first ∷ more) = bytes_eq first project

-- the rows of the projects that may have this home: of all where it is `default`, and else of the project of this name
abbrev pub rows_at_home : {X : Type 0} → (X → List (List ℕ)) → List ℕ → List X → List X
rows_at_home names home rows =
    if bytes_eq home default_name then rows else filter (λ row. begins_with home (names row)) rows

-- whether it comes before that of a project
abbrev pub comes_before : List ℕ → List (List ℕ) → Bool
comes_before project [] = true
comes_before project (first ∷ more) = is_lt (slice_cmp nat_cmp first project)

-- the first row of these names stands at this place, or there is none, and its place is in front of the first row that
-- these names go before, or after all rows
abbrev pub FindsPlace : {X : Type 0} → (X → List (List ℕ)) → List (List ℕ) → List X → Result ℕ ℕ → Type 0
FindsPlace names wanted rows (Ok place) = position (λ row. same_names (names row) wanted) rows ≡ Some place
FindsPlace names wanted rows (Err place) =
    (position (λ row. same_names (names row) wanted) rows ≡ None)
    × (position_or_len (λ row. texts_before wanted (names row)) rows ≡ place)
