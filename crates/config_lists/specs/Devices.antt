-- Devices: a list of names and devices, each device the settings that it has.
use Rattle.std.specs.Prelude.{ℕ, ◌+◌, Bool, ◌&&◌, List, [], ◌∷◌, Option, if◌then◌else◌, is_some, is_none, codes}
use Rattle.config_lists.specs.Entries.{value_of, KeysRise}
use Rattle.config_lists.specs.Settings.{Settings, setting, has_setting}
use Rattle.config_lists.specs.declared.root.Root.{Root}
use Rattle.config_lists.specs.declared.root.Root.TheVariants as root

abbrev pub NamedDevices : Type 0
NamedDevices = List (List ℕ × Settings)

-- the device of a name, if there is one
abbrev pub device : NamedDevices → List ℕ → Option Settings
device devices name = value_of devices name

-- what every `Devices` is: names rise
pub record IsDevices (devices : NamedDevices) : Type 0 where
  pub rising : KeysRise devices

-- whether a device is a root disk: a disk at `/` with a pool and without a source
unfoldable pub is_root_disk : Settings → Bool
is_root_disk disk = has_setting disk (codes "type") (codes "disk") && has_setting disk (codes "path") (codes "/")
    && is_some (setting disk (codes "pool")) && is_none (setting disk (codes "source"))

-- the places of the root disks, the first of the list at `place`
abbrev pub root_places : ℕ → NamedDevices → List ℕ
root_places place [] = []
root_places place (device ∷ rest) =
    if is_root_disk device.1 then place ∷ root_places (place + 1) rest else root_places (place + 1) rest

-- the place of the one root disk, or that there is none, or that there are several
abbrev pub one_of : List ℕ → Root
one_of [] = root.None
one_of (place ∷ []) = root.One place
one_of (place ∷ other ∷ more) = root.Several

unfoldable pub root_of : NamedDevices → Root
root_of devices = one_of (root_places 0 devices)

-- what a further root disk, after those found before, makes of the answer
abbrev pub and_one : Root → ℕ → Root
and_one root.None place = root.One place
and_one (root.One other) place = root.Several
and_one root.Several place = root.Several
