-- Who holds what: the operation that keeps an instance busy, the one that holds a profile, and the first user of a
-- profile, network, pool or volume.
use Rattle.std.specs.Prelude.{◌&&◌, ◌||◌, ◌∷◌, ◌++◌, if◌then◌else◌}
use Rattle.row_machine.specs.Words.{ℕ, Bool, false, List, [], filter, find, Option, Some, None, list_any, option_map_or}
use Rattle.row_machine.specs.Words.{option_to_list, bytes_eq, first, first_of, ObjectKind, NamedDevices, names_network}
use Rattle.row_machine.specs.Words.{names_pool, names_volume, Row, Target, ObjectKind as kind, Row as row, Operation}
use Rattle.row_machine.specs.Words.{Profile, Volume, Instance}
use Rattle.row_machine.specs.Estate.{Task, State, home_of, expanded_of, is_of_kind}
use Rattle.row_machine.specs.machine.Claims.{claimed_instance, claimed_volume, replaced_instance, project_of_row}
use Rattle.row_machine.specs.shown.Urls.{url_of, target_of}

-- an operation's target or source is this instance, or a snapshot of it
abbrev pub is_about : List ℕ → Target → Bool
is_about instance of = about of.kind where
  about : ObjectKind → Bool
  about kind.Instance = bytes_eq of.name instance
  about kind.Snapshot = bytes_eq of.instance instance
  about other = false

abbrev pub keeps_busy : List ℕ → List ℕ → Task → Bool
keeps_busy project instance task =
    bytes_eq task.project project
    && (is_about instance task.target || option_map_or (is_about instance) task.source false)

unfoldable pub busy_with : State → List ℕ → List ℕ → Option (Operation Task)
busy_with state project instance = find (λ operation. keeps_busy project instance operation.work) state.operations.live

abbrev pub names_profile : State → List ℕ → List ℕ → Instance → Bool
names_profile state home profile instance =
    bytes_eq (home_of state.projects instance.project kind.Profile) home
    && list_any (λ name. bytes_eq name profile) instance.profiles

-- the instances that a claim speaks of: the one that it would put, and the one that this one replaces
abbrev pub claim_rows : State → Task → List Instance
claim_rows state task = option_to_list (claimed_instance task) ++ option_to_list (replaced_instance state task)

-- the lowest-numbered live operation whose claim names the profile
unfoldable pub holder_of : State → List ℕ → List ℕ → Option (Operation Task)
holder_of state home profile =
    find (λ operation. list_any (names_profile state home profile) (claim_rows state operation.work))
    state.operations.live

-- Devices in a project name the object: a network or volume of this home, or a pool.
abbrev pub devices_name : State → List ℕ → Target → List ℕ → NamedDevices → Bool
devices_name state home of project devices = name of.kind where
  name : ObjectKind → Bool
  name kind.Network = bytes_eq (home_of state.projects project kind.Network) home && names_network devices of.name
  name kind.Pool = names_pool devices of.name
  name kind.Volume = bytes_eq (home_of state.projects project kind.Volume) home && names_volume devices of.pool of.name
  name other = false

-- a profile names what its own devices name
abbrev pub profile_uses : State → List ℕ → Target → Profile → Bool
profile_uses state home of profile = devices_name state home of profile.project profile.devices

-- an instance names what its expanded devices name
abbrev pub instance_uses : State → List ℕ → Target → Instance → Bool
instance_uses state home of instance =
    devices_name state home of instance.project (expanded_of state.projects state.profiles instance).devices

abbrev pub volume_uses : Target → Volume → Bool
volume_uses of volume = is_of_kind kind.Pool of && bytes_eq volume.pool of.name

-- the volume that a copy is made from names its pool and itself
abbrev pub source_uses : List ℕ → Target → List ℕ → Target → Bool
source_uses home of project source = uses of.kind source.kind where
  uses : ObjectKind → ObjectKind → Bool
  uses kind.Pool kind.Volume = bytes_eq source.pool of.name
  uses kind.Volume kind.Volume = bytes_eq project home && bytes_eq source.pool of.pool && bytes_eq source.name of.name
  uses other another = false

-- A claim names what the row that it would put and the row that it replaces name, and a copy of a volume its source.
abbrev pub claim_uses : State → List ℕ → Target → Task → Bool
claim_uses state home of task =
    list_any (instance_uses state home of) (claim_rows state task)
    || option_map_or (volume_uses of) (claimed_volume task) false
    || option_map_or (source_uses home of task.project) task.source false

abbrev pub user_url : Bool → Row → Option (List ℕ)
user_url uses row = if uses then Some (url_of (project_of_row row) (target_of row)) else None

abbrev pub task_url : Task → List ℕ
task_url task = url_of task.project task.target

-- the first user within a project: its profiles, instances, volumes, and then the claims of its live operations
abbrev pub user_in : State → List ℕ → Target → List ℕ → Option (List ℕ)
user_in state home of project =
    first
    (first_of (λ profile. user_url (profile_uses state home of profile) (row.Profile profile))
    (filter (λ profile. bytes_eq profile.project project) state.profiles)
    ∷ first_of (λ instance. user_url (instance_uses state home of instance) (row.Instance instance))
    (filter (λ instance. bytes_eq instance.project project) state.instances)
    ∷ first_of (λ volume. user_url (volume_uses of volume) (row.Volume volume))
    (filter (λ volume. bytes_eq volume.project project) state.volumes)
    ∷ first_of (λ operation. work_user operation.work) state.operations.live
    ∷ []) where
      claims_in : Task → Bool
      claims_in task = option_map_or (λ new. bytes_eq (project_of_row new) project) task.claim false

      work_user : Task → Option (List ℕ)
      work_user task = if claims_in task && claim_uses state home of task then Some (task_url task) else None

abbrev pub profile_user : State → List ℕ → List ℕ → Option (List ℕ)
profile_user state home profile =
    first_of (λ instance. user_url (names_profile state home profile instance) (row.Instance instance)) state.instances

-- The URL of the first user of a profile, network, pool or volume of this home. Other kinds have no users.
unfoldable pub first_user_of : State → List ℕ → Target → Option (List ℕ)
first_user_of state home of = user of.kind where
  user : ObjectKind → Option (List ℕ)
  user kind.Profile = profile_user state home of.name
  user kind.Network = first_of (λ project. user_in state home of project.name) state.projects
  user kind.Pool = first_of (λ project. user_in state home of project.name) state.projects
  user kind.Volume = first_of (λ project. user_in state home of project.name) state.projects
  user other = None
