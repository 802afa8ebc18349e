-- Rules on settings: V1 to V5, of the rows that a command would put.
use Rattle.std.specs.Prelude.{◌∷◌, if◌then◌else◌}
use Rattle.row_machine.specs.Words.{ℕ, Bool, true, false, List, [], filter, find, Option, Some, None, is_none, codes}
use Rattle.row_machine.specs.Words.{option_and_then, slice_get, unwrap_or, option_map, keys_of, values_of, option_or}
use Rattle.row_machine.specs.Words.{first, first_of, fault_number, Kind, Container, Machine, Settings, setting}
use Rattle.row_machine.specs.Words.{has_setting, NamedDevices, root_of, Root, Scope, SettingFault, DeviceFault}
use Rattle.row_machine.specs.Words.{instance_fault, project_fault, network_fault, pool_fault, volume_fault}
use Rattle.row_machine.specs.Words.{devices_fault, Refusal, Row, ObjectKind as kind, Scope as scope, Rule as rule}
use Rattle.row_machine.specs.Words.{Row as row, Root as root, SettingFault as fault, DeviceFault as device, Project}
use Rattle.row_machine.specs.Words.{Profile, Instance}
use Rattle.row_machine.specs.Estate.{State, default_name, profile_named, network_named, pool_named, volume_named}
use Rattle.row_machine.specs.Estate.{home_of, expanded_of, no_details, on_name, on_object}
use Rattle.row_machine.specs.Readings.{judged_instances, names_profile}

abbrev pub text_at : List (List ℕ) → ℕ → List ℕ
text_at texts place = unwrap_or (slice_get texts place) []

abbrev pub device_at : NamedDevices → ℕ → Settings
device_at devices place = unwrap_or (slice_get (values_of devices) place) []

-- how V3 tells what is wrong with a device
abbrev pub device_fault_number : DeviceFault → ℕ
device_fault_number device.BadName = 1
device_fault_number device.NoType = 2
device_fault_number device.UnknownType = 3
device_fault_number (device.UnknownKey place) = 4
device_fault_number (device.BadValue place why) = 5
device_fault_number device.NicSource = 6
device_fault_number device.DiskShape = 7

abbrev pub faulty_key : Settings → DeviceFault → List ℕ
faulty_key settings (device.UnknownKey place) = text_at (keys_of settings) place
faulty_key settings (device.BadValue place why) = text_at (keys_of settings) place
faulty_key settings other = []

-- V1: no such key. V2: no such value of the key. V3: a device that the tables refuse.
abbrev pub setting_refusal : Settings → NamedDevices → SettingFault → Refusal
setting_refusal config devices (fault.Unknown place) =
    record { rule = rule.V1; details = record no_details { key = text_at (keys_of config) place } }
setting_refusal config devices (fault.Bad place why) = record {
  rule = rule.V2;
  details = record no_details { key = text_at (keys_of config) place; number = fault_number why };
}
setting_refusal config devices (fault.Device place why) = record {
  rule = rule.V3;
  details = record no_details {
    key = faulty_key (device_at devices place) why;
    name = text_at (keys_of devices) place;
    number = device_fault_number why;
  };
}

abbrev pub tables_break : Settings → Option SettingFault → NamedDevices → Option Refusal
tables_break config settings devices =
    option_map (setting_refusal config devices) (option_or settings (devices_fault devices))

abbrev pub scope_of : Kind → Scope
scope_of Container = scope.Container
scope_of Machine = scope.Machine

abbrev pub is_one : Root → Bool
is_one root.None = false
is_one (root.One place) = true
is_one root.Several = false

-- V4: not exactly one root disk.
unfoldable pub root_missing : State → Instance → Option Refusal
root_missing state instance =
    if is_one (root_of (expanded_of state.projects state.profiles instance).devices) then None
    else Some (on_name rule.V4 instance.name)

-- V5: the first profile of an instance that is missing; or a network, pool or volume that a device names.
unfoldable pub profile_missing : State → Instance → Option Refusal
profile_missing state instance =
    option_map (λ name. on_object rule.V5 kind.Profile name)
    (find (λ name. is_none (profile_named state.profiles (home_of state.projects instance.project kind.Profile) name))
    instance.profiles)

abbrev pub network_missing : State → List ℕ → List ℕ → Option Refusal
network_missing state project name =
    if is_none (network_named state.networks (home_of state.projects project kind.Network) name)
    then Some (on_object rule.V5 kind.Network name)
    else None

abbrev pub pool_missing : State → List ℕ → Option Refusal
pool_missing state name =
    if is_none (pool_named state.pools name) then Some (on_object rule.V5 kind.Pool name) else None

abbrev pub volume_missing : State → List ℕ → List ℕ → List ℕ → Option Refusal
volume_missing state project pool name =
    if is_none (volume_named state.volumes (home_of state.projects project kind.Volume) pool name)
    then Some (on_object rule.V5 kind.Volume name)
    else None

-- a disk in a pool names the pool, and with a source the volume
abbrev pub disk_misses : State → List ℕ → Settings → List ℕ → Option Refusal
disk_misses state project settings pool =
    first
    (pool_missing state pool
    ∷ option_and_then (volume_missing state project pool) (setting settings (codes "source"))
    ∷ [])

-- what a device in a project names: a nic its network, a disk its pool and then its volume
abbrev pub device_misses : State → List ℕ → Settings → Option Refusal
device_misses state project settings =
    if has_setting settings (codes "type") (codes "nic")
    then option_and_then (network_missing state project) (setting settings (codes "network"))
    else if has_setting settings (codes "type") (codes "disk")
    then option_and_then (disk_misses state project settings) (setting settings (codes "pool"))
    else None

unfoldable pub devices_miss : State → List ℕ → NamedDevices → Option Refusal
devices_miss state project devices = first_of (device_misses state project) (values_of devices)

-- an instance: its own settings and devices, and what its expansion names
unfoldable pub instance_settings : State → Instance → Option Refusal
instance_settings state instance = first
    (tables_break instance.config (instance_fault instance.config (scope_of instance.kind)) instance.devices
    ∷ root_missing state instance
    ∷ profile_missing state instance
    ∷ devices_miss state instance.project (expanded_of state.projects state.profiles instance).devices
    ∷ [])

unfoldable pub profile_settings : State → Profile → Option Refusal
profile_settings state profile = first
    (tables_break profile.config (instance_fault profile.config scope.Any) profile.devices
    ∷ devices_miss state profile.project profile.devices
    ∷ [])

abbrev pub naming : State → Profile → List Instance
naming state profile = filter (names_profile state profile.project profile.name) (judged_instances state)

-- the profile `default` of a project, where it has one: the homes of its devices change with the project's features
abbrev pub own_default : State → Project → Option Refusal
own_default state project =
    option_and_then (λ profile. devices_miss state profile.project profile.devices)
    (profile_named state.profiles project.name default_name)

-- The first rule that a row of the state breaks: a profile by itself and then each instance that names it.
unfoldable pub row_settings : State → Row → Option Refusal
row_settings state (row.Project project) =
    first (tables_break project.config (project_fault project.config) [] ∷ own_default state project ∷ [])
row_settings state (row.Profile profile) =
    first (profile_settings state profile ∷ first_of (instance_settings state) (naming state profile) ∷ [])
row_settings state (row.Network network) = tables_break network.config (network_fault network.config) []
row_settings state (row.Pool pool) = tables_break pool.config (pool_fault pool.config) []
row_settings state (row.Volume volume) = tables_break volume.config (volume_fault volume.config) []
row_settings state (row.Instance instance) = instance_settings state instance
row_settings state (row.Snapshot snapshot) = None

-- the first rule that one of the rows which a command puts would break in the state after it
unfoldable pub settings_broken : State → List Row → Option Refusal
settings_broken after rows = first_of (row_settings after) rows
