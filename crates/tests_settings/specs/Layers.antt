-- Settings, devices and changes of them, and what layers give together.
use Rattle.std.specs.Prelude.{◌≡◌, ℕ, Bool, true, false, List, [], ◌∷◌, map, Option, Some, None, is_some, codes}
use Rattle.expansion.specs.Layers.{expanded}
use Rattle.expansion.specs.declared.expanded.Expanded.{Expanded}
use Rattle.config_lists.specs.Changes.{settled, patched}
use Rattle.config_lists.specs.Devices.{NamedDevices, device, is_root_disk, root_of}
use Rattle.config_lists.specs.Entries.{replaced, without}
use Rattle.config_lists.specs.Settings.{Settings, setting, has_setting}
use Rattle.config_lists.specs.declared.root.Root.{Root}
use Rattle.config_lists.specs.declared.root.Root.TheVariants as root
use Rattle.tests_settings.specs.Tables.{Agree, Gives, entry, settings, devices}

-- ---- settings

-- what is set in the first cases, and what stays of it in the others
abbrev pub sets : Settings
sets = entry "b" "2" ∷ entry "a" "1" ∷ entry "ba" "3" ∷ entry "b" "4" ∷ entry "B" "5" ∷ []

abbrev pub three : Settings
three = entry "B" "5" ∷ entry "a" "1" ∷ entry "ba" "3" ∷ []

-- what is set in this order, and the settings that this gives
abbrev pub sorted : List (Settings × Settings)
sorted =
    (sets, entry "B" "5" ∷ entry "a" "1" ∷ entry "b" "4" ∷ entry "ba" "3" ∷ [])
    ∷ (three, three)
    ∷ []

-- what is set, a key and its value there, if it has one
abbrev pub found : List (Settings × List ℕ × Option (List ℕ))
found =
    (sets, codes "a", Some (codes "1"))
    ∷ (sets, codes "b", Some (codes "4"))
    ∷ (sets, codes "bb", None)
    ∷ (sets, codes "", None)
    ∷ (three, codes "b", None)
    ∷ (three, codes "B", Some (codes "5"))
    ∷ []

-- what is set, a key, and whether its value is `4`
abbrev pub fours : List (Settings × List ℕ × Bool)
fours =
    (sets, codes "a", false)
    ∷ (sets, codes "b", true)
    ∷ (sets, codes "bb", false)
    ∷ (sets, codes "", false)
    ∷ (three, codes "b", false)
    ∷ (three, codes "B", false)
    ∷ []

-- what is set, a key that is removed, whether it is there, and what stays
abbrev pub removed : List (Settings × List ℕ × Bool × Settings)
removed =
    (sets, codes "b", true, three)
    ∷ (three, codes "b", false, three)
    ∷ (three, codes "B", true, entry "a" "1" ∷ entry "ba" "3" ∷ [])
    ∷ []

-- changes of settings, in this order
abbrev pub puts : Settings
puts = entry "b" "" ∷ entry "d" "4" ∷ entry "a" "0" ∷ entry "a" "9" ∷ entry "e" "" ∷ []

-- ---- devices

abbrev pub two_devices : NamedDevices
two_devices =
    (codes "eth0", entry "type" "nic" ∷ [])
    ∷ (codes "root", entry "path" "/" ∷ entry "size" "1GiB" ∷ entry "type" "disk" ∷ [])
    ∷ []

abbrev pub others : NamedDevices
others =
    (codes "gpu", entry "type" "gpu" ∷ [])
    ∷ (codes "root", entry "pool" "p0" ∷ entry "type" "disk" ∷ [])
    ∷ []

-- the two devices with each of the others in place of the one of its name, whole
abbrev pub replaced_devices : NamedDevices
replaced_devices =
    (codes "eth0", entry "type" "nic" ∷ [])
    ∷ (codes "gpu", entry "type" "gpu" ∷ [])
    ∷ (codes "root", entry "pool" "p0" ∷ entry "type" "disk" ∷ [])
    ∷ []

-- a root disk
abbrev pub root_disk : Settings
root_disk = settings (entry "type" "disk" ∷ entry "path" "/" ∷ entry "pool" "p0" ∷ [])

-- devices that are no root disks
abbrev pub no_roots : List Settings
no_roots =
    settings (entry "type" "nic" ∷ entry "path" "/" ∷ entry "pool" "p0" ∷ [])
    ∷ settings (entry "type" "disk" ∷ entry "path" "/srv" ∷ entry "pool" "p0" ∷ [])
    ∷ settings (entry "type" "disk" ∷ entry "path" "/" ∷ [])
    ∷ settings (entry "type" "disk" ∷ entry "path" "/" ∷ entry "pool" "p0" ∷ entry "source" "v" ∷ [])
    ∷ settings (entry "path" "/" ∷ entry "pool" "p0" ∷ [])
    ∷ []

-- which device is the root of none, of the other one, of that and a root disk, and of both and a second root disk
abbrev pub roots_with : Settings → List Root
roots_with other = map root_of
    ([]
    ∷ ((codes "a", other) ∷ [])
    ∷ ((codes "a", other) ∷ (codes "b", root_disk) ∷ [])
    ∷ ((codes "a", other) ∷ (codes "b", root_disk) ∷ (codes "c", root_disk) ∷ [])
    ∷ [])

-- ---- layers

abbrev pub bare : Settings
bare = entry "path" "/srv" ∷ entry "pool" "p0" ∷ entry "source" "v" ∷ entry "type" "disk" ∷ []

abbrev pub whole : Settings
whole = entry "path" "/srv" ∷ entry "pool" "p0" ∷ entry "size" "2GiB" ∷ entry "source" "v" ∷ entry "type" "disk" ∷ []

abbrev pub none : Settings
none = entry "type" "none" ∷ []

-- a layer of settings, and the device `extra`, if it has it
abbrev pub layer : Settings → Option Settings → Expanded
layer config None = record { config = config; devices = [] }
layer config (Some extra) = record { config = config; devices = (codes "extra", extra) ∷ [] }

-- layers, and what they give together
abbrev pub expansions : List (List Expanded × Expanded)
expansions =
    ([], layer [] None)
    ∷ (
      layer (entry "limits.cpu" "1" ∷ entry "user.x" "1" ∷ []) (Some whole)
          ∷ layer (entry "user.x" "2" ∷ []) None
          ∷ layer (entry "limits.cpu" "4" ∷ []) (Some bare)
          ∷ [],
      layer (entry "limits.cpu" "4" ∷ entry "user.x" "2" ∷ []) (Some bare),
    )
    ∷ (
      layer (entry "limits.cpu" "1" ∷ entry "user.x" "1" ∷ []) (Some whole)
          ∷ layer (entry "user.x" "2" ∷ []) None
          ∷ layer (entry "limits.cpu" "4" ∷ []) (Some bare)
          ∷ layer [] (Some none)
          ∷ [],
      layer (entry "limits.cpu" "4" ∷ entry "user.x" "2" ∷ []) (Some none),
    )
    ∷ []

-- every case
pub record LayersHold : Type 0 where
  pub settings_are_sorted : Gives settings sorted
  pub keys_are_found : Agree (λ row. setting (settings row.0) row.1) (λ row. row.2) found
  pub values_are_compared : Agree (λ row. has_setting (settings row.0) row.1 (codes "4")) (λ row. row.2) fours
  pub removed_is_told : Agree (λ row. is_some (setting (settings row.0) row.1)) (λ row. row.2) removed
  pub keys_are_removed : Agree (λ row. without (settings row.0) row.1) (λ row. row.3) removed
  pub changes_set_and_remove :
      patched (entry "a" "1" ∷ entry "b" "2" ∷ entry "c" "3" ∷ []) (settings puts)
      ≡ entry "a" "9" ∷ entry "c" "3" ∷ entry "d" "4" ∷ []
  pub changes_settle : settled (settings puts) ≡ entry "a" "9" ∷ entry "d" "4" ∷ []
  pub devices_are_replaced_whole : replaced (devices two_devices) (devices others) ≡ replaced_devices
  pub devices_are_removed : without replaced_devices (codes "gpu")
      ≡ (codes "eth0", entry "type" "nic" ∷ []) ∷ (codes "root", entry "pool" "p0" ∷ entry "type" "disk" ∷ []) ∷ []
  pub removed_device_is_there : is_some (device replaced_devices (codes "gpu")) ≡ true
  pub removed_device_is_gone : device (without replaced_devices (codes "gpu")) (codes "gpu") ≡ None
  pub other_device_stays :
      device (without replaced_devices (codes "gpu")) (codes "root")
      ≡ Some (entry "pool" "p0" ∷ entry "type" "disk" ∷ [])
  pub one_disk_is_the_root : Agree roots_with (λ other. root.None ∷ root.None ∷ root.One 1 ∷ root.Several ∷ []) no_roots
  pub others_are_no_roots : Agree is_root_disk (λ other. false) no_roots
  pub a_disk_is_a_root : is_root_disk root_disk ≡ true
  pub the_last_layer_decides : Gives expanded expansions
