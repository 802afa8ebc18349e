-- The first fault of settings and of devices, by the tables.
use Rattle.std.specs.Prelude.{ℕ, Bool, ◌&&◌, List, Option, Some, None, if◌then◌else◌, is_some, is_none, codes}
use Rattle.std.specs.Option.{option_map, option_or}
use Rattle.std.specs.List.{enumerate_from}
use Rattle.plain_lists.specs.Firsts.{first_of}
use Rattle.config_lists.specs.Settings.{Settings, setting, has_setting}
use Rattle.config_lists.specs.Devices.{NamedDevices}
use Rattle.option_tables.specs.declared.form.Form.{Form}
use Rattle.option_tables.specs.declared.faults.SettingFault.{SettingFault}
use Rattle.option_tables.specs.declared.faults.SettingFault.TheVariants as told
use Rattle.option_tables.specs.declared.faults.DeviceFault.{DeviceFault}
use Rattle.option_tables.specs.declared.faults.DeviceFault.TheVariants.{BadName, NoType, UnknownType, NicSource}
use Rattle.option_tables.specs.declared.faults.DeviceFault.TheVariants.{DiskShape}
use Rattle.option_tables.specs.declared.faults.KeyFault.{KeyFault}
use Rattle.option_tables.specs.declared.faults.KeyFault.TheVariants as key
use Rattle.option_tables.specs.declared.tables.Scope.{Scope}
use Rattle.option_tables.specs.declared.tables.Table.{Table}
use Rattle.option_tables.specs.declared.tables.Table.TheVariants as table
use Rattle.option_tables.specs.declared.tables.DeviceType.{DeviceType}
use Rattle.option_tables.specs.declared.tables.DeviceType.TheVariants as device
use Rattle.option_tables.specs.Faults.{setting_fault, key_fault}
use Rattle.option_tables.specs.Forms.{value_fault}
use Rattle.option_tables.specs.Names.{is_device_name}
use Rattle.option_tables.specs.Tables.{form_of, device_type}

-- the fault of the key at a place: no form is listed for it, or its value has not that form
abbrev pub fault_at : ℕ → Option Form → List ℕ → Option KeyFault
fault_at place None value = Some (key.Unknown place)
fault_at place (Some form) value = option_map (key.Bad place) (value_fault form value)

-- the first faulty key by a table
unfoldable pub keys_fault : Table → Settings → Option KeyFault
keys_fault table config =
    first_of (λ (setting : ℕ × (List ℕ × List ℕ)). fault_at setting.0 (form_of table setting.1.0) setting.1.1)
    (enumerate_from 0 config)

-- the first fault of the settings of an instance or profile, project, network, pool or volume
unfoldable pub instance_fault : Settings → Scope → Option SettingFault
instance_fault config scope = option_map setting_fault (keys_fault (table.Instance scope) config)

unfoldable pub project_fault : Settings → Option SettingFault
project_fault config = option_map setting_fault (keys_fault table.Project config)

unfoldable pub network_fault : Settings → Option SettingFault
network_fault config = option_map setting_fault (keys_fault table.Network config)

unfoldable pub pool_fault : Settings → Option SettingFault
pool_fault config = option_map setting_fault (keys_fault table.Pool config)

unfoldable pub volume_fault : Settings → Option SettingFault
volume_fault config = option_map setting_fault (keys_fault table.Volume config)

-- a nic has exactly one of `network` and `nictype`
abbrev pub is_nic_shaped : Settings → Bool
is_nic_shaped nic = if is_some (setting nic (codes "network"))
    then is_none (setting nic (codes "nictype")) else is_some (setting nic (codes "nictype"))

-- a disk at `/` has a pool and no source, a disk elsewhere has a source
abbrev pub is_disk_shaped : Settings → Bool
is_disk_shaped disk =
    if has_setting disk (codes "path") (codes "/")
    then is_some (setting disk (codes "pool")) && is_none (setting disk (codes "source"))
    else is_some (setting disk (codes "source"))

-- the fault of a device's shape
abbrev pub shape_fault : DeviceType → Settings → Option DeviceFault
shape_fault device.Nic nic = if is_nic_shaped nic then None else Some NicSource
shape_fault device.Disk disk = if is_disk_shaped disk then None else Some DiskShape
shape_fault other settings = None

-- the fault of a device of a type: the first faulty key, then the shape
abbrev pub typed_fault : Option DeviceType → Settings → Option DeviceFault
typed_fault None settings = Some UnknownType
typed_fault (Some kind) settings =
    option_or (option_map key_fault (keys_fault (table.Device kind) settings)) (shape_fault kind settings)

-- the fault of a device whose type has this name, or no name
abbrev pub named_fault : Option (List ℕ) → Settings → Option DeviceFault
named_fault None settings = Some NoType
named_fault (Some name) settings = typed_fault (device_type name) settings

-- the first fault of a device: its name, its type, its keys, its shape
unfoldable pub device_fault : List ℕ → Settings → Option DeviceFault
device_fault name settings = if is_device_name name
    then named_fault (setting settings (codes "type")) settings else Some BadName

-- the first faulty device
unfoldable pub devices_fault : NamedDevices → Option SettingFault
devices_fault devices =
    first_of (λ (device : ℕ × (List ℕ × Settings)).
    option_map (told.Device device.0) (device_fault device.1.0 device.1.1))
    (enumerate_from 0 devices)
