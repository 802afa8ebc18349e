use Rattle.std.proofs.Common.{◌≡◌, suc, List, [], ◌∷◌, length, refl, ap}
use Rattle.serde_json.specs.View.{items_view}
use Rattle.serde_json.specs.declared.value.Value.{Value}
use Rattle.rest_bodies.specs.Profiles.{count_of}

-- a list has as many values as it shows
pub counted : (values : List Value) → length values ≡ count_of (items_view values)
counted [] = refl
counted (value ∷ more) = ap suc (counted more)
