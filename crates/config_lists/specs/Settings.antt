-- Settings: what contracts see of a `Config`, and of a `Device`, which is one.
use Rattle.std.specs.Prelude.{◌≢◌, ℕ, Bool, false, List, [], Option, All}
use Rattle.std.specs.Option.{option_map_or}
use Rattle.std.specs.Str.{bytes_eq}
use Rattle.config_lists.specs.Entries.{value_of, KeysRise}

abbrev pub Settings : Type 0
Settings = List (List ℕ × List ℕ)

-- the value of a setting, if there is one
abbrev pub setting : Settings → List ℕ → Option (List ℕ)
setting config key = value_of config key

-- whether a setting has this value
abbrev pub has_setting : Settings → List ℕ → List ℕ → Bool
has_setting config key value = option_map_or (λ found. bytes_eq found value) (setting config key) false

-- neither the key nor the value is empty
abbrev pub IsFull : List ℕ × List ℕ → Type 0
IsFull entry = (entry.0 ≢ []) × (entry.1 ≢ [])

-- what every `Config` is: keys rise, and nothing is empty
pub record IsConfig (config : Settings) : Type 0 where
  pub rising : KeysRise config
  pub full : All IsFull config
