-- Rows by their names, and the order in which they stand.
use Rattle.std.specs.Prelude.{◌&&◌, ◌∷◌}
use Rattle.row_machine.specs.Words.{ℕ, Bool, true, false, List, [], Option, find, codes, slice_cmp, nat_cmp, is_lt}
use Rattle.row_machine.specs.Words.{bytes_eq, replaced, Project, Profile, Network, Pool, Volume, Instance, Snapshot}
use Rattle.row_machine.specs.machine.State.{InstancePower}

-- the project and the profile that every server has
abbrev pub default_name : List ℕ
default_name = codes "default"

-- What a row is named by: a project or a pool by its own name, a volume or a snapshot by its project, by the pool or
-- the instance that it stands in, and by its name, and all others by their project and name.
abbrev pub project_names : Project → List (List ℕ)
project_names project = project.name ∷ []

abbrev pub profile_names : Profile → List (List ℕ)
profile_names profile = profile.project ∷ profile.name ∷ []

abbrev pub network_names : Network → List (List ℕ)
network_names network = network.project ∷ network.name ∷ []

abbrev pub pool_names : Pool → List (List ℕ)
pool_names pool = pool.name ∷ []

abbrev pub volume_names : Volume → List (List ℕ)
volume_names volume = volume.project ∷ volume.pool ∷ volume.name ∷ []

abbrev pub instance_names : Instance → List (List ℕ)
instance_names instance = instance.project ∷ instance.name ∷ []

abbrev pub snapshot_names : Snapshot → List (List ℕ)
snapshot_names snapshot = snapshot.project ∷ snapshot.instance ∷ snapshot.name ∷ []

abbrev pub power_names : InstancePower → List (List ℕ)
power_names instance_power = instance_power.project ∷ instance_power.name ∷ []

-- whether these are the same names, one by one
abbrev pub same_names : List (List ℕ) → List (List ℕ) → Bool
same_names (name ∷ rest) (other ∷ more) = so_far (bytes_eq name other) rest more where
  so_far : Bool → List (List ℕ) → List (List ℕ) → Bool
  so_far same (text ∷ texts) (another ∷ others) = so_far (same && bytes_eq text another) texts others
  so_far same [] [] = same
  so_far same names others = false
same_names [] [] = true
same_names names others = false

-- by bytes
abbrev pub text_before : List ℕ → List ℕ → Bool
text_before text other = is_lt (slice_cmp nat_cmp text other)

-- the first place at which they differ decides
abbrev pub texts_before : List (List ℕ) → List (List ℕ) → Bool
texts_before texts others = is_lt (slice_cmp (slice_cmp nat_cmp) texts others)

abbrev pub is_project : List ℕ → Project → Bool
is_project name project = same_names (project_names project) (name ∷ [])

abbrev pub is_profile : List ℕ → List ℕ → Profile → Bool
is_profile project name profile = same_names (profile_names profile) (project ∷ name ∷ [])

abbrev pub is_network : List ℕ → List ℕ → Network → Bool
is_network project name network = same_names (network_names network) (project ∷ name ∷ [])

abbrev pub is_pool : List ℕ → Pool → Bool
is_pool name pool = same_names (pool_names pool) (name ∷ [])

abbrev pub is_volume : List ℕ → List ℕ → List ℕ → Volume → Bool
is_volume project pool name volume = same_names (volume_names volume) (project ∷ pool ∷ name ∷ [])

abbrev pub is_instance : List ℕ → List ℕ → Instance → Bool
is_instance project name instance = same_names (instance_names instance) (project ∷ name ∷ [])

abbrev pub is_snapshot : List ℕ → List ℕ → List ℕ → Snapshot → Bool
is_snapshot project instance name snapshot = same_names (snapshot_names snapshot) (project ∷ instance ∷ name ∷ [])

abbrev pub is_power_of : List ℕ → List ℕ → InstancePower → Bool
is_power_of project name instance_power = same_names (power_names instance_power) (project ∷ name ∷ [])

abbrev pub project_named : List Project → List ℕ → Option Project
project_named rows name = find (is_project name) rows

abbrev pub profile_named : List Profile → List ℕ → List ℕ → Option Profile
profile_named rows project name = find (is_profile project name) rows

abbrev pub network_named : List Network → List ℕ → List ℕ → Option Network
network_named rows project name = find (is_network project name) rows

abbrev pub pool_named : List Pool → List ℕ → Option Pool
pool_named rows name = find (is_pool name) rows

abbrev pub volume_named : List Volume → List ℕ → List ℕ → List ℕ → Option Volume
volume_named rows project pool name = find (is_volume project pool name) rows

abbrev pub instance_named : List Instance → List ℕ → List ℕ → Option Instance
instance_named rows project name = find (is_instance project name) rows

abbrev pub snapshot_named : List Snapshot → List ℕ → List ℕ → List ℕ → Option Snapshot
snapshot_named rows project instance name = find (is_snapshot project instance name) rows

-- ---- a row put in place of the one of its names, or at its place in their order

abbrev pub put_by : {X : Type 0} → (X → List (List ℕ)) → X → List X → List X
put_by names row rows =
    replaced (λ other. same_names (names other) (names row)) (λ other. texts_before (names row) (names other)) row rows

abbrev pub with_project : Project → List Project → List Project
with_project project rows = put_by project_names project rows

abbrev pub with_profile : Profile → List Profile → List Profile
with_profile profile rows = put_by profile_names profile rows

abbrev pub with_network : Network → List Network → List Network
with_network network rows = put_by network_names network rows

abbrev pub with_pool : Pool → List Pool → List Pool
with_pool pool rows = put_by pool_names pool rows

abbrev pub with_volume : Volume → List Volume → List Volume
with_volume volume rows = put_by volume_names volume rows

abbrev pub with_instance : Instance → List Instance → List Instance
with_instance instance rows = put_by instance_names instance rows

abbrev pub with_snapshot : Snapshot → List Snapshot → List Snapshot
with_snapshot snapshot rows = put_by snapshot_names snapshot rows

abbrev pub with_instance_power : InstancePower → List InstancePower → List InstancePower
with_instance_power instance_power rows = put_by power_names instance_power rows
