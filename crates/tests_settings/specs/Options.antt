-- Which key takes which value, of instances and of objects, and the first fault of settings.
use Prim.Native.String.{String}
use Rattle.std.specs.Prelude.{ℕ, zero, ◌==◌, Bool, true, false, not, List, [], ◌∷◌, ◌++◌, map, length, replicate}
use Rattle.std.specs.Prelude.{filter, Option, Some, None, codes}
use Rattle.config_lists.specs.Settings.{Settings}
use Rattle.size_values.specs.declared.fault.ValueFault.TheVariants as value
use Rattle.option_tables.specs.Checks.{instance_fault, project_fault, network_fault, pool_fault, volume_fault}
use Rattle.option_tables.specs.Tables.{takes}
use Rattle.option_tables.specs.declared.faults.SettingFault.{SettingFault}
use Rattle.option_tables.specs.declared.faults.SettingFault.TheVariants as fault
use Rattle.option_tables.specs.declared.tables.Scope.{Scope}
use Rattle.option_tables.specs.declared.tables.Scope.TheVariants as scope
use Rattle.tests_settings.specs.Tables.{Agree, Gives, entry, settings}

-- what a check says of a setting that stands alone
pub data Said : Type 0 where
  taken : Said
  unknown : Said
  refused : Said
  other : Said

abbrev pub said_of : Option SettingFault → Said
said_of None = taken
said_of (Some (fault.Unknown zero)) = unknown
said_of (Some (fault.Bad zero why)) = refused
said_of more = other

-- what a check says of one key and its value
abbrev pub says : (Settings → Option SettingFault) → List ℕ → List ℕ → Said
says check key value = said_of (check ((key, value) ∷ []))

-- a text of this many bytes that begins as the keys of users do
abbrev pub user_key : ℕ → List ℕ
user_key rest = codes "user." ++ replicate rest 120

-- a key of 255 bytes, the longest that there may be, and one that is too long
abbrev pub longest : List ℕ
longest = user_key 250

abbrev pub too_long : List ℕ
too_long = user_key 251

-- ---- instances

-- a key, a good value, a bad one or an empty one where any text is good, and the instances that have the key
abbrev pub InstanceOption : Type 0
InstanceOption = List ℕ × List ℕ × List ℕ × Scope

abbrev pub any : String → String → String → InstanceOption
any key good bad = (codes key, codes good, codes bad, scope.Any)

abbrev pub container : String → String → String → InstanceOption
container key good bad = (codes key, codes good, codes bad, scope.Container)

abbrev pub machine : String → String → String → InstanceOption
machine key good bad = (codes key, codes good, codes bad, scope.Machine)

abbrev pub instance_options : List InstanceOption
instance_options =
    any "environment.A" "x" ""
    ∷ container "linux.kernel_modules" "x" ""
    ∷ any "user.a" "x" ""
    ∷ any "image.os" "x" ""
    ∷ any "boot.autostart" "true" "maybe"
    ∷ any "boot.autostart.delay" "1000000" "1000001"
    ∷ any "boot.autostart.priority" "0" "x"
    ∷ any "boot.host_shutdown_timeout" "30" "-1"
    ∷ any "boot.stop.priority" "1" "1000001"
    ∷ any "cloud-init.network-config" "x" ""
    ∷ any "cloud-init.user-data" "x" ""
    ∷ any "cloud-init.vendor-data" "x" ""
    ∷ any "limits.cpu" "0-3,5" "3-0"
    ∷ container "limits.cpu.allowance" "50%" ""
    ∷ container "limits.cpu.priority" "10" "11"
    ∷ any "limits.memory" "50%" "101%"
    ∷ container "limits.memory.enforce" "soft" "weak"
    ∷ container "limits.memory.swap" "x" ""
    ∷ container "limits.processes" "9223372036854775807" "9223372036854775808"
    ∷ any "raw.apparmor" "x" ""
    ∷ any "raw.idmap" "x" ""
    ∷ container "raw.lxc" "x" ""
    ∷ machine "raw.qemu" "x" ""
    ∷ container "raw.seccomp" "x" ""
    ∷ container "security.idmap.isolated" "1" "2"
    ∷ container "security.nesting" "Yes" "y"
    ∷ container "security.privileged" "off" "of"
    ∷ any "security.protection.delete" "on" "onn"
    ∷ machine "security.secureboot" "no" "none"
    ∷ container "security.syscalls.intercept.mknod" "true" "t"
    ∷ container "security.syscalls.intercept.mount" "true" "t"
    ∷ container "security.syscalls.intercept.setxattr" "true" "t"
    ∷ any "snapshots.expiry" "1d 2H" "1d  2H"
    ∷ any "snapshots.pattern" "a-%d.b" "%d%d"
    ∷ any "snapshots.schedule" "@daily" "60 * * * *"
    ∷ any "snapshots.schedule.stopped" "false" "f"
    -- patterns for the names of snapshots: four good ones, and eight bad ones
    ∷ any "snapshots.pattern" "%dx" "%d"
    ∷ any "snapshots.pattern" "snap%d" "-a%d"
    ∷ any "snapshots.pattern" "a%d-" "snap"
    ∷ any "snapshots.pattern" "0123456789012345678901234567890123456789012345%d.b"
    "0123456789012345678901234567890123456789012345%d.bc"
    ∷ any "snapshots.pattern" "snap%d" "%d%d"
    ∷ any "snapshots.pattern" "snap%d" "a%"
    ∷ any "snapshots.pattern" "snap%d" "a%x"
    ∷ any "snapshots.pattern" "snap%d" "a b%d"
    ∷ (longest, codes "x", [], scope.Any)
    ∷ []

-- what is said of the good value where the kind is not known, in a container and in a virtual machine
abbrev pub said_by_kind : InstanceOption → List Said
said_by_kind row = map (λ kind. says (λ config. instance_fault config kind) row.0 row.1)
    (scope.Any ∷ scope.Container ∷ scope.Machine ∷ [])

-- the kinds that have the key take it, to the others it is unknown
abbrev pub taken_by_kind : Scope → List Said
taken_by_kind scope.Any = taken ∷ taken ∷ taken ∷ []
taken_by_kind scope.Container = taken ∷ taken ∷ unknown ∷ []
taken_by_kind scope.Machine = taken ∷ unknown ∷ taken ∷ []

-- ---- objects

-- the check of an object, a key, a good value, and a bad one or an empty one where any text is good
abbrev pub ObjectOption : Type 0
ObjectOption = (Settings → Option SettingFault) × List ℕ × List ℕ × List ℕ

abbrev pub project : String → String → String → ObjectOption
project key good bad = (project_fault, codes key, codes good, codes bad)

abbrev pub network : String → String → String → ObjectOption
network key good bad = (network_fault, codes key, codes good, codes bad)

abbrev pub pool : String → String → String → ObjectOption
pool key good bad = (pool_fault, codes key, codes good, codes bad)

abbrev pub volume : String → String → String → ObjectOption
volume key good bad = (volume_fault, codes key, codes good, codes bad)

abbrev pub object_options : List ObjectOption
object_options =
    project "features.images" "true" "x"
    ∷ project "features.networks" "true" "x"
    ∷ project "features.profiles" "true" "x"
    ∷ project "features.storage.buckets" "true" "x"
    ∷ project "features.storage.volumes" "true" "x"
    ∷ project "limits.containers" "1" "x"
    ∷ project "limits.cpu" "8" "0-3"
    ∷ project "limits.disk" "1GiB" "1Gib"
    ∷ project "limits.disk.pool.p0" "1GiB" "1Gib"
    ∷ project "limits.disk.pool.0" "0" "x"
    ∷ project "limits.disk.pool.a.b_c" "1" "50%"
    ∷ project "limits.instances" "0" "x"
    ∷ project "limits.memory" "8EB" "50%"
    ∷ project "limits.networks" "1" "x"
    ∷ project "limits.processes" "1" "x"
    ∷ project "limits.virtual-machines" "1" "x"
    ∷ project "restricted" "true" "x"
    ∷ project "restricted.containers.interception" "full" "managed"
    ∷ project "restricted.containers.lowlevel" "allow" "full"
    ∷ project "restricted.containers.nesting" "block" "full"
    ∷ project "restricted.containers.privilege" "isolated" "block"
    ∷ project "restricted.devices.disk" "managed" "full"
    ∷ project "restricted.devices.gpu" "allow" "managed"
    ∷ project "restricted.devices.nic" "managed" "full"
    ∷ project "restricted.devices.proxy" "allow" "managed"
    ∷ project "restricted.devices.unix-block" "allow" "managed"
    ∷ project "restricted.devices.unix-char" "allow" "managed"
    ∷ project "restricted.devices.usb" "allow" "managed"
    ∷ project "restricted.networks.access" "br0,br1" "br0,"
    ∷ project "restricted.snapshots" "allow" "full"
    ∷ project "restricted.virtual-machines.lowlevel" "allow" "full"
    ∷ project "user.a" "x" ""
    ∷ network "bridge.mtu" "65535" "0"
    ∷ network "dns.domain" "x" ""
    ∷ network "ipv4.address" "10.0.0.1/24" "10.0.0.1/31"
    ∷ network "ipv4.address" "none" "auto"
    ∷ network "ipv4.dhcp" "true" "x"
    ∷ network "ipv4.nat" "true" "x"
    ∷ network "ipv6.address" "none" "fd00::1/64"
    ∷ network "user.a" "x" ""
    ∷ pool "size" "1GiB" "x"
    ∷ pool "source" "/dev/sdb" ""
    ∷ pool "user.a" "x" ""
    ∷ volume "size" "1GiB" "1 GiB"
    ∷ volume "user.a" "x" ""
    -- lists of networks: four good ones, and seven bad ones
    ∷ project "restricted.networks.access" "br0" "b"
    ∷ project "restricted.networks.access" "br0,br1" "br0,"
    ∷ project "restricted.networks.access" "0123456789abcde" "0123456789abcdef"
    ∷ project "restricted.networks.access" "b-_." "br 0"
    ∷ project "restricted.networks.access" "br0" ",br0"
    ∷ project "restricted.networks.access" "br0" "br0,,br1"
    ∷ project "restricted.networks.access" "br0" "-br"
    ∷ (volume_fault, longest, codes "x", [])
    ∷ []

-- ---- keys that no line takes

abbrev pub unknown_keys : List (List ℕ)
unknown_keys =
    too_long
    ∷ codes "user."
    ∷ codes "user"
    ∷ codes "environment."
    ∷ codes "image."
    ∷ codes "limits"
    ∷ codes "limits.cpu."
    ∷ codes "limits.cpux"
    ∷ codes "limits.disk.pool"
    ∷ codes "limits.disk.pool."
    ∷ codes "limits.disk.pool.-x"
    ∷ codes "limits.disk.pool.#"
    ∷ codes "type"
    ∷ []

-- what each check says of a key
abbrev pub said_by_all : List ℕ → List Said
said_by_all key = map (λ check. says check key (codes "x"))
    ((λ config. instance_fault config scope.Any) ∷ project_fault ∷ network_fault ∷ pool_fault ∷ volume_fault ∷ [])

-- ---- the first fault

-- settings of a container, and the first fault
abbrev pub first_faults : List (Settings × Option SettingFault)
first_faults =
    ([], None)
    ∷ (
      entry "boot.autostart" "true" ∷ entry "zzz" "x" ∷ entry "limits.memory" "x" ∷ [],
      Some (fault.Bad 1 (value.BadByte 0)),
    )
    ∷ (
      entry "boot.autostart" "true" ∷ entry "limits.zzz" "x" ∷ entry "security.nesting" "x" ∷ [],
      Some (fault.Unknown 1),
    )
    ∷ (entry "limits.memory.enforce" "weak" ∷ entry "security.nesting" "x" ∷ [], Some (fault.Bad 0 value.OutOfRange))
    ∷ (entry "limits.cpu.priority" "99999999999999999999" ∷ entry "a" "x" ∷ [], Some (fault.Unknown 0))
    ∷ []

-- ---- the keys of tables

-- a key of a table and a key, and whether the first stands for the second
abbrev pub keys : List (List ℕ × List ℕ × Bool)
keys =
    (codes "limits.cpu", codes "limits.cpu", true)
    ∷ (codes "limits.cpu", codes "limits.cp", false)
    ∷ (codes "limits.cpu", codes "limits.cpux", false)
    ∷ (codes "user.*", codes "user.a", true)
    ∷ (codes "user.*", codes "user.*", true)
    ∷ (codes "user.*", codes "user.", false)
    ∷ (codes "user.*", codes "users.a", false)
    ∷ (codes "pool.#", codes "pool.p0", true)
    ∷ (codes "pool.#", codes "pool.a.b", true)
    ∷ (codes "pool.#", codes "pool.", false)
    ∷ (codes "pool.#", codes "pool._x", false)
    ∷ (codes "pool.#", codes "pools.x", false)
    ∷ (codes "*", codes "a", true)
    ∷ (codes "*", codes "", false)
    ∷ (codes "", codes "", true)
    ∷ []

-- ---- every case

pub record OptionsHold : Type 0 where
  pub of_instances : Agree said_by_kind (λ row. taken_by_kind row.3) instance_options
  pub bad_of_instances : Agree (λ row. says (λ config. instance_fault config scope.Any) row.0 row.2) (λ row. refused)
      (filter (λ row. not (length row.2 == 0)) instance_options)
  pub of_objects : Agree (λ row. says row.0 row.1 row.2) (λ row. taken) object_options
  pub bad_of_objects : Agree (λ row. says row.0 row.1 row.3) (λ row. refused)
      (filter (λ row. not (length row.3 == 0)) object_options)
  pub no_line : Agree said_by_all (λ key. replicate 5 unknown) unknown_keys
  pub firsts : Gives (λ rows. instance_fault (settings rows) scope.Container) first_faults
  pub stars : Agree (λ row. takes row.0 row.1) (λ row. row.2) keys
