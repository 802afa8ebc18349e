-- Which key takes which value, of devices of each type, and the faults of devices.
use Prim.Native.String.{String}
use Rattle.std.specs.Prelude.{ℕ, zero, ◌==◌, not, List, [], ◌∷◌, map, length, filter, Option, Some, None, codes}
use Rattle.std.specs.Option.{option_map}
use Rattle.config_lists.specs.Devices.{NamedDevices}
use Rattle.config_lists.specs.Entries.{put}
use Rattle.config_lists.specs.Settings.{Settings}
use Rattle.size_values.specs.declared.fault.ValueFault.TheVariants as value
use Rattle.option_tables.specs.Checks.{devices_fault}
use Rattle.option_tables.specs.declared.faults.DeviceFault.{DeviceFault}
use Rattle.option_tables.specs.declared.faults.DeviceFault.TheVariants as fault
use Rattle.option_tables.specs.declared.faults.SettingFault.{SettingFault}
use Rattle.option_tables.specs.declared.faults.SettingFault.TheVariants as setting
use Rattle.tests_settings.specs.Tables.{Agree, Gives, entry, settings, devices}

-- what a check says of the one key of a device that is not of its shape
pub data Said : Type 0 where
  taken : Said
  unknown : Said
  refused : Said
  other : Said

abbrev pub said_of : Option SettingFault → Said
said_of None = taken
said_of (Some (setting.Device zero (fault.UnknownKey place))) = unknown
said_of (Some (setting.Device zero (fault.BadValue place why))) = refused
said_of more = other

-- what is said of a device of this shape with one more setting
abbrev pub says : Settings → List ℕ → List ℕ → Said
says shape key value = said_of (devices_fault ((codes "d", put (settings shape) key value) ∷ []))

-- a key, a good value, and a bad one or an empty one where any text is good
abbrev pub DeviceOption : Type 0
DeviceOption = List ℕ × List ℕ × List ℕ

abbrev pub option : String → String → String → DeviceOption
option key good bad = (codes key, codes good, codes bad)

abbrev pub of_disks : List DeviceOption
of_disks =
    option "boot.priority" "1" "x"
    ∷ option "limits.max" "x" ""
    ∷ option "limits.read" "x" ""
    ∷ option "limits.write" "x" ""
    ∷ option "path" "/srv" ""
    ∷ option "pool" "p0" ""
    ∷ option "readonly" "true" "x"
    ∷ option "required" "true" "x"
    ∷ option "size" "1GiB" "x"
    ∷ option "source" "v" ""
    ∷ []

abbrev pub of_nics : List DeviceOption
of_nics =
    option "boot.priority" "1" "x"
    ∷ option "host_name" "x" ""
    ∷ option "hwaddr" "x" ""
    ∷ option "ipv4.address" "10.0.0.2" "10.0.0.2/24"
    ∷ option "limits.egress" "x" ""
    ∷ option "limits.ingress" "x" ""
    ∷ option "limits.max" "x" ""
    ∷ option "mtu" "1500" "0"
    ∷ option "name" "eth0" ""
    ∷ option "network" "br0" ""
    ∷ option "parent" "x" ""
    ∷ option "security.mac_filtering" "true" "x"
    ∷ option "vlan" "1" ""
    ∷ []

abbrev pub of_unlinked_nics : List DeviceOption
of_unlinked_nics =
    option "nictype" "bridged" "bond"
    ∷ option "nictype" "sriov" "x"
    ∷ option "nictype" "p2p" "P2P"
    ∷ []

abbrev pub of_gpus : List DeviceOption
of_gpus =
    option "gid" "x" ""
    ∷ option "gputype" "x" ""
    ∷ option "id" "x" ""
    ∷ option "mode" "x" ""
    ∷ option "pci" "x" ""
    ∷ option "productid" "x" ""
    ∷ option "uid" "x" ""
    ∷ option "vendorid" "x" ""
    ∷ []

abbrev pub of_proxies : List DeviceOption
of_proxies =
    option "bind" "host" "hosts"
    ∷ option "connect" "x" ""
    ∷ option "gid" "x" ""
    ∷ option "listen" "x" ""
    ∷ option "mode" "x" ""
    ∷ option "nat" "true" "x"
    ∷ option "uid" "x" ""
    ∷ []

abbrev pub of_unix_devices : List DeviceOption
of_unix_devices =
    option "gid" "x" ""
    ∷ option "major" "x" ""
    ∷ option "minor" "x" ""
    ∷ option "mode" "x" ""
    ∷ option "path" "x" ""
    ∷ option "required" "true" "x"
    ∷ option "source" "x" ""
    ∷ option "uid" "x" ""
    ∷ []

abbrev pub of_usb_devices : List DeviceOption
of_usb_devices =
    option "gid" "x" ""
    ∷ option "mode" "x" ""
    ∷ option "productid" "x" ""
    ∷ option "required" "true" "x"
    ∷ option "serial" "x" ""
    ∷ option "uid" "x" ""
    ∷ option "vendorid" "x" ""
    ∷ []

-- the settings that the shape of a type needs, and the options of the type
abbrev pub device_options : List (Settings × List DeviceOption)
device_options =
    (entry "type" "none" ∷ [], [])
    ∷ (entry "type" "disk" ∷ entry "source" "v" ∷ entry "path" "/srv" ∷ [], of_disks)
    ∷ (entry "type" "nic" ∷ entry "network" "br0" ∷ [], of_nics)
    ∷ (entry "type" "nic" ∷ [], of_unlinked_nics)
    ∷ (entry "type" "gpu" ∷ [], of_gpus)
    ∷ (entry "type" "proxy" ∷ [], of_proxies)
    ∷ (entry "type" "unix-block" ∷ [], of_unix_devices)
    ∷ (entry "type" "unix-char" ∷ [], of_unix_devices)
    ∷ (entry "type" "usb" ∷ [], of_usb_devices)
    ∷ []

-- the options that have a bad value
abbrev pub with_bad : List DeviceOption → List DeviceOption
with_bad options = filter (λ option. not (length option.2 == 0)) options

-- a name of 64 bytes, the longest that there may be
abbrev pub longest : List ℕ
longest = codes "0123456789012345678901234567890123456789012345678901234567890123"

-- a device by its name and settings, and its fault, if it has one
abbrev pub faults : List (List ℕ × Settings × Option DeviceFault)
faults =
    (codes "root", entry "type" "disk" ∷ entry "path" "/" ∷ entry "pool" "p0" ∷ [], None)
    ∷ (codes "root", entry "type" "disk" ∷ entry "path" "/" ∷ [], Some fault.DiskShape)
    ∷ (
      codes "root",
      entry "type" "disk" ∷ entry "path" "/" ∷ entry "pool" "p0" ∷ entry "source" "v" ∷ [],
      Some fault.DiskShape,
    )
    ∷ (codes "data", entry "type" "disk" ∷ entry "path" "/srv" ∷ entry "pool" "p0" ∷ entry "source" "v" ∷ [], None)
    ∷ (codes "data", entry "type" "disk" ∷ entry "path" "/srv" ∷ entry "pool" "p0" ∷ [], Some fault.DiskShape)
    ∷ (codes "data", entry "type" "disk" ∷ entry "source" "v" ∷ [], None)
    ∷ (codes "data", entry "type" "disk" ∷ [], Some fault.DiskShape)
    ∷ (codes "eth0", entry "type" "nic" ∷ entry "network" "br0" ∷ [], None)
    ∷ (codes "eth0", entry "type" "nic" ∷ entry "nictype" "bridged" ∷ [], None)
    ∷ (
      codes "eth0",
      entry "type" "nic" ∷ entry "nictype" "bridged" ∷ entry "network" "br0" ∷ [],
      Some fault.NicSource,
    )
    ∷ (codes "eth0", entry "type" "nic" ∷ [], Some fault.NicSource)
    ∷ (codes "eth0", entry "type" "none" ∷ [], None)
    ∷ (codes "eth0", entry "type" "none" ∷ entry "network" "br0" ∷ [], Some (fault.UnknownKey 0))
    ∷ (codes "eth0", entry "network" "br0" ∷ [], Some fault.NoType)
    ∷ (codes "eth0", [], Some fault.NoType)
    ∷ (codes "eth0", entry "type" "tpm" ∷ [], Some fault.UnknownType)
    ∷ (codes "eth0", entry "type" "nic" ∷ entry "mtu" "0" ∷ entry "a" "x" ∷ [], Some (fault.UnknownKey 0))
    ∷ (codes "", entry "type" "tpm" ∷ [], Some fault.BadName)
    ∷ (codes "a b", entry "type" "gpu" ∷ [], Some fault.BadName)
    ∷ (longest, entry "type" "gpu" ∷ [], None)
    ∷ (
      codes "0123456789012345678901234567890123456789012345678901234567890123x",
      entry "type" "gpu" ∷ [],
      Some fault.BadName,
    )
    ∷ (codes "a-B_9.:/", entry "type" "gpu" ∷ [], None)
    ∷ []

-- devices, the first fault and its place
abbrev pub first_faults : List (NamedDevices × Option SettingFault)
first_faults = (
  (codes "a", entry "type" "gpu" ∷ []) ∷ (codes "b", entry "type" "nic" ∷ []) ∷ (codes "c", []) ∷ [],
  Some (setting.Device 1 fault.NicSource),
)
    ∷ (
      (codes "eth0", settings (entry "type" "nic" ∷ entry "mtu" "0" ∷ entry "zzz" "x" ∷ [])) ∷ [],
      Some (setting.Device 0 (fault.BadValue 0 value.OutOfRange)),
    )
    ∷ []

-- every case
pub record DeviceOptionsHold : Type 0 where
  pub good : Agree (λ row. map (λ option. says row.0 option.0 option.1) row.1) (λ row. map (λ option. taken) row.1)
      device_options
  pub bad : Agree (λ row. map (λ option. says row.0 option.0 option.2) (with_bad row.1))
      (λ row. map (λ option. refused) (with_bad row.1)) device_options
  pub foreign : Agree (λ row. says row.0 (codes "zzz") (codes "x")) (λ row. unknown) device_options
  pub alone : Agree (λ row. devices_fault ((row.0, settings row.1) ∷ []))
      (λ row. option_map (setting.Device 0) row.2) faults
  pub first : Gives (λ rows. devices_fault (devices rows)) first_faults
