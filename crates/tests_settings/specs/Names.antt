-- The names that objects may have, and the objects that devices name.
use Prim.Native.String.{String}
use Rattle.std.specs.Prelude.{ℕ, Bool, true, false, List, [], ◌∷◌, codes}
use Rattle.estate_rules.specs.Names.{good_name_of}
use Rattle.estate_rules.specs.Uses.{names_network, names_pool, names_volume}
use Rattle.config_lists.specs.Devices.{NamedDevices}
use Rattle.size_values.specs.declared.kinds.ObjectKind.{ObjectKind}
use Rattle.size_values.specs.declared.kinds.ObjectKind.TheVariants as kind
use Rattle.tests_settings.specs.Tables.{Agree, Gives, entry, settings, devices}

abbrev pub of_63 : List ℕ
of_63 = codes "a23456789012345678901234567890123456789012345678901234567890123"

abbrev pub of_64 : List ℕ
of_64 = codes "a234567890123456789012345678901234567890123456789012345678901234"

-- the letter e with an acute accent, in UTF-8
abbrev pub e_acute : List ℕ
e_acute = 195 ∷ 169 ∷ []

-- a kind of objects and a name, and whether it is allowed
abbrev pub names : List (ObjectKind × List ℕ × Bool)
names =
    (kind.Project, codes "a", true)
    ∷ (kind.Project, codes "7", true)
    ∷ (kind.Project, codes "a.b-c.", true)
    ∷ (kind.Project, codes "x-", true)
    ∷ (kind.Project, of_63, true)
    ∷ (kind.Network, codes "br", true)
    ∷ (kind.Network, codes "br0", true)
    ∷ (kind.Network, codes "0_", true)
    ∷ (kind.Network, codes "a23456789012345", true)
    ∷ (kind.Profile, codes "p", true)
    ∷ (kind.Profile, codes "0-_.", true)
    ∷ (kind.Profile, of_63, true)
    ∷ (kind.Pool, codes "p", true)
    ∷ (kind.Pool, of_63, true)
    ∷ (kind.Volume, codes "v", true)
    ∷ (kind.Volume, of_63, true)
    ∷ (kind.Snapshot, codes "0", true)
    ∷ (kind.Snapshot, of_63, true)
    ∷ (kind.Instance, codes "a", true)
    ∷ (kind.Instance, codes "Z9", true)
    ∷ (kind.Instance, codes "a-b", true)
    ∷ (kind.Instance, of_63, true)
    ∷ (kind.Project, codes "", false)
    ∷ (kind.Project, codes "-a", false)
    ∷ (kind.Project, codes ".a", false)
    ∷ (kind.Project, codes "a_b", false)
    ∷ (kind.Project, codes "a/b", false)
    ∷ (kind.Project, e_acute, false)
    ∷ (kind.Project, of_64, false)
    ∷ (kind.Network, codes "", false)
    ∷ (kind.Network, codes "b", false)
    ∷ (kind.Network, codes "a234567890123456", false)
    ∷ (kind.Network, codes "-b", false)
    ∷ (kind.Network, codes "_b", false)
    ∷ (kind.Network, codes ".b", false)
    ∷ (kind.Profile, codes "", false)
    ∷ (kind.Profile, codes "_p", false)
    ∷ (kind.Profile, codes "-p", false)
    ∷ (kind.Profile, codes ".p", false)
    ∷ (kind.Profile, codes "a b", false)
    ∷ (kind.Profile, of_64, false)
    ∷ (kind.Pool, codes "p:", false)
    ∷ (kind.Pool, of_64, false)
    ∷ (kind.Volume, codes "a,b", false)
    ∷ (kind.Volume, of_64, false)
    ∷ (kind.Snapshot, e_acute, false)
    ∷ (kind.Snapshot, of_64, false)
    ∷ (kind.Instance, codes "", false)
    ∷ (kind.Instance, codes "7a", false)
    ∷ (kind.Instance, codes "-a", false)
    ∷ (kind.Instance, codes "a-", false)
    ∷ (kind.Instance, codes "-", false)
    ∷ (kind.Instance, codes "a.b", false)
    ∷ (kind.Instance, codes "a_b", false)
    ∷ (kind.Instance, of_64, false)
    ∷ (kind.Operation, codes "a", false)
    ∷ []

-- ---- what devices name

abbrev pub all_devices : NamedDevices
all_devices = devices (
    (codes "eth0", settings (entry "type" "nic" ∷ entry "network" "br0" ∷ []))
    ∷ (codes "eth1", settings (entry "type" "nic" ∷ entry "nictype" "macvlan" ∷ entry "parent" "br1" ∷ []))
    ∷ (codes "root", settings (entry "type" "disk" ∷ entry "path" "/" ∷ entry "pool" "p0" ∷ []))
    ∷ (
      codes "data",
      settings (entry "type" "disk" ∷ entry "path" "/srv" ∷ entry "pool" "p1" ∷ entry "source" "v0" ∷ []),
    )
    ∷ (codes "home", settings (entry "type" "disk" ∷ entry "path" "/home" ∷ entry "source" "v1" ∷ []))
    ∷ (
      codes "gone",
      settings (entry "type" "none" ∷ entry "network" "br2" ∷ entry "pool" "p2" ∷ entry "source" "v2" ∷ []),
    )
    ∷ [])

-- an object that devices may name
abbrev pub Use : Type 0
Use = NamedDevices → Bool

abbrev pub network : String → Use
network name named = names_network named (codes name)

abbrev pub pool : String → Use
pool name named = names_pool named (codes name)

abbrev pub volume : String → String → Use
volume of_pool name named = names_volume named (codes of_pool) (codes name)

-- an object, and whether the devices name it
abbrev pub uses : List (Use × Bool)
uses =
    (network "br0", true)
    ∷ (network "br1", false)
    ∷ (network "br2", false)
    ∷ (network "br", false)
    ∷ (pool "p0", true)
    ∷ (pool "p1", true)
    ∷ (pool "p2", false)
    ∷ (pool "br0", false)
    ∷ (volume "p1" "v0", true)
    ∷ (volume "p0" "v0", false)
    ∷ (volume "p1" "v1", false)
    ∷ (volume "p2" "v2", false)
    ∷ (volume "p0" "", false)
    ∷ []

-- every case
pub record NamesHold : Type 0 where
  pub names_are_judged : Agree (λ row. good_name_of row.0 row.1) (λ row. row.2) names
  pub devices_name : Gives (λ named. named all_devices) uses
