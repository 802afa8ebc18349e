-- A setting has one value.
use Rattle.std.proofs.Common.{◌≡◌, ℕ, Bool, true, false, List, Option, Some, None, sym, ap, ◌∙◌}
use Rattle.std.specs.Option.{option_map_or}
use Rattle.std.specs.Str.{bytes_eq}
use Rattle.config_lists.proofs.Keys.{same}
use Rattle.config_lists.specs.Settings.{Settings, setting, has_setting}

one : (o : Option (List ℕ)) (a b : List ℕ) → option_map_or (λ found. bytes_eq found a) o false ≡ true → option_map_or (λ found. bytes_eq found b) o false ≡ bytes_eq a b
one None a b is = cc
one (Some found) a b is = ap (λ x. bytes_eq x b) (same found a is)

pub has_setting-other : (config : Settings) (key a b : List ℕ) → has_setting config key a ≡ true → has_setting config key b ≡ bytes_eq a b
has_setting-other config key a b is = one (setting config key) a b is
