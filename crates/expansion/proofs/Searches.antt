-- Layers laid one after the other, and the search among them from the last one on.
use Rattle.std.proofs.Common.{◌≡◌, ℕ, List, [], ◌∷◌, Option, Some, None, fold, refl, sym, ap, ◌∙◌}
use Rattle.std.specs.List.{All}
use Rattle.std.specs.Option.{option_or}
use Rattle.std.proofs.lemmas.List.Elements.{All-head, All-tail}
use Rattle.config_lists.specs.Entries.{value_of, put, replaced, KeysRise}
use Rattle.config_lists.specs.Settings.{Settings, IsFull}
use Rattle.config_lists.proofs.Lookups.{value_of-replaced, KeysRise-replaced}
use Rattle.config_lists.proofs.Puts.{All-put}
use Rattle.expansion.specs.declared.expanded.Expanded.{Expanded}
use Rattle.expansion.specs.Layers.{IsLayer, nothing, laid, expanded, last_of}

option_or_assoc : {V : Type 0} (a b c : Option V) → option_or a (option_or b c) ≡ option_or (option_or a b) c
option_or_assoc None b c = refl
option_or_assoc (Some x) b c = refl

option_or-none : {V : Type 0} (a : Option V) → option_or a None ≡ a
option_or-none None = refl
option_or-none (Some x) = refl

-- Read is what a layer has under a key or a name. Where laying goes by `option_or`, layers are searched from the last one on.
module _ {V : Type 0} (read : Expanded → Option V) (step : (below layer : Expanded) → IsLayer layer → read (laid below layer) ≡ option_or (read layer) (read below)) where
  pub read-fold : (below : Expanded) (layers : List Expanded) → All IsLayer layers → read (fold laid below layers) ≡ option_or (last_of read layers) (read below)
  read-fold below [] all = refl
  read-fold below (l ∷ ls) all =
      read-fold (laid below l) ls (All-tail IsLayer l ls all)
      ∙ ap (option_or (last_of read ls)) (step below l (All-head IsLayer l ls all))
      ∙ option_or_assoc (last_of read ls) (read l) (read below)

  pub read-expanded : (layers : List Expanded) → All IsLayer layers → read nothing ≡ None → read (expanded layers) ≡ last_of read layers
  unfolding expanded
  read-expanded layers all none = read-fold nothing layers all ∙ ap (option_or (last_of read layers)) none ∙ option_or-none (last_of read layers)

pub setting-laid : (key : List ℕ) (below layer : Expanded) → IsLayer layer → value_of (laid below layer).config key ≡ option_or (value_of layer.config key) (value_of below.config key)
unfolding laid
setting-laid key below layer is = value_of-replaced below.config layer.config key is.config.rising

pub device-laid : (name : List ℕ) (below layer : Expanded) → IsLayer layer → value_of (laid below layer).devices name ≡ option_or (value_of layer.devices name) (value_of below.devices name)
unfolding laid
device-laid name below layer is = value_of-replaced below.devices layer.devices name is.devices.rising

-- what is laid is a layer again
All-replaced : (old by : Settings) → All IsFull old → All IsFull by → All IsFull (replaced old by)
unfolding replaced
All-replaced old [] all new = all
All-replaced old (n ∷ by) all new = All-replaced (put old n.0 n.1) by (All-put n.0 n.1 IsFull old all (All-head IsFull n by new)) (All-tail IsFull n by new)

IsLayer-laid : (below layer : Expanded) → IsLayer below → IsLayer layer → IsLayer (laid below layer)
unfolding laid
IsLayer-laid below layer is is' = record {
  config = record {
    rising = KeysRise-replaced below.config layer.config is.config.rising;
    full = All-replaced below.config layer.config is.config.full is'.config.full;
  };
  devices = record { rising = KeysRise-replaced below.devices layer.devices is.devices.rising };
}

pub IsLayer-fold : (below : Expanded) (layers : List Expanded) → IsLayer below → All IsLayer layers → IsLayer (fold laid below layers)
IsLayer-fold below [] is all = is
IsLayer-fold below (l ∷ ls) is all = IsLayer-fold (laid below l) ls (IsLayer-laid below l is (All-head IsLayer l ls all)) (All-tail IsLayer l ls all)
