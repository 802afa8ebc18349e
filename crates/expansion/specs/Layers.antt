-- Layers of settings and devices: profiles in their order, and then what an instance has itself.
use Rattle.std.specs.Prelude.{ℕ, List, [], ◌∷◌, Option, None, fold}
use Rattle.std.specs.Option.{option_or}
use Rattle.config_lists.specs.Entries.{replaced, KeysRise}
use Rattle.config_lists.specs.Settings.{Settings, setting, IsConfig}
use Rattle.config_lists.specs.Devices.{NamedDevices, device, IsDevices}
use Rattle.expansion.specs.declared.expanded.Expanded.{Expanded}

-- what every layer is: settings and devices in their order
pub record IsLayer (layer : Expanded) : Type 0 where
  pub config : IsConfig layer.config
  pub devices : IsDevices layer.devices

-- no layer
abbrev pub nothing : Expanded
nothing = record { config = []; devices = [] }

-- a layer over what is below it: each of its keys is set, each of its devices stands for the one of its name, whole
unfoldable pub laid : Expanded → Expanded → Expanded
laid below layer = record {
  config = replaced below.config layer.config;
  devices = replaced below.devices layer.devices;
}

-- layers, the first at the bottom
unfoldable pub expanded : List Expanded → Expanded
expanded layers = fold laid nothing layers

-- what the last layer that has it has
abbrev pub last_of : {V : Type 0} → (Expanded → Option V) → List Expanded → Option V
last_of value [] = None
last_of value (layer ∷ layers) = option_or (last_of value layers) (value layer)

-- the value of a key: that of the last layer that has the key
unfoldable pub expanded_setting : List Expanded → List ℕ → Option (List ℕ)
expanded_setting layers key = last_of (λ layer. setting layer.config key) layers

-- the device of a name: that of the last layer that has the name, whole
unfoldable pub expanded_device : List Expanded → List ℕ → Option Settings
expanded_device layers name = last_of (λ layer. device layer.devices name) layers
