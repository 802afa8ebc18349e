-- The one spelling of each part of a row as bytes: numbers, texts, lists, settings and devices.
use Rattle.std.specs.Prelude.{ℕ, Bool, true, false, List, ◌++◌, length}
use Rattle.std.specs.List.{flat_map}
use Rattle.std.specs.Int.{w32, w64, to_be_bytes}
use Rattle.size_values.specs.declared.kinds.Kind.{Kind}
use Rattle.size_values.specs.declared.kinds.Kind.TheVariants as kind
use Rattle.config_lists.specs.Settings.{Settings}
use Rattle.config_lists.specs.Devices.{NamedDevices}
use Rattle.records.specs.declared.rows.Driver.{Driver}
use Rattle.records.specs.declared.rows.Driver.TheVariants as driver

-- a text: its length as four bytes, highest first, and its bytes
unfoldable pub text_bytes : List ℕ → List ℕ
text_bytes text = to_be_bytes w32 (length text) ++ text

-- a number: eight bytes, highest first
unfoldable pub number_bytes : ℕ → List ℕ
number_bytes number = to_be_bytes w64 number

-- a list: its count as four bytes, highest first, and its items
unfoldable pub list_bytes : {X : Type 0} → (X → List ℕ) → List X → List ℕ
list_bytes item items = to_be_bytes w32 (length items) ++ flat_map item items

-- a boolean, as one byte
abbrev pub boolean_byte : Bool → ℕ
boolean_byte false = 0
boolean_byte true = 1

-- the kind of an instance, as one byte
abbrev pub kind_byte : Kind → ℕ
kind_byte kind.Container = 0
kind_byte kind.Machine = 1

-- the driver of a pool, as one byte
abbrev pub driver_byte : Driver → ℕ
driver_byte driver.Dir = 0
driver_byte driver.Btrfs = 1
driver_byte driver.Lvm = 2
driver_byte driver.Zfs = 3

-- a key and its value
abbrev pub setting_bytes : List ℕ × List ℕ → List ℕ
setting_bytes setting = text_bytes setting.0 ++ text_bytes setting.1

-- settings, in the order of their keys
abbrev pub settings_bytes : Settings → List ℕ
settings_bytes settings = list_bytes setting_bytes settings

-- a name and the settings of its device
abbrev pub device_bytes : List ℕ × Settings → List ℕ
device_bytes device = text_bytes device.0 ++ settings_bytes device.1

-- devices, in the order of their names
abbrev pub devices_bytes : NamedDevices → List ℕ
devices_bytes devices = list_bytes device_bytes devices

-- texts, in the order of the list
abbrev pub texts_bytes : List (List ℕ) → List ℕ
texts_bytes texts = list_bytes text_bytes texts
