-- Layers that are laid one after another.
use Rattle.std.proofs.Common.{◌≡◌, ℕ, ◌+◌, ◌<◌, List, [], ◌∷◌, ◌++◌, map, take, length, get_or, refl, sym, ap, ◌∙◌}
use Rattle.std.proofs.lemmas.List.{map-append, take_more}
use Rattle.std.proofs.lemmas.List.Sums.{fold-append}
use Rattle.config_lists.specs.Entries.{replaced}
use Rattle.expansion.specs.declared.expanded.Expanded.{Expanded}
use Rattle.expansion.specs.Layers.{nothing, laid, expanded}
use Rattle.records.specs.declared.rows.Profile.{Profile}
use Rattle.row_machine.specs.machine.Rows.{profile_named}
use Rattle.row_machine.specs.machine.Expansions.{layer_of}

-- a layer without settings changes nothing
pub laid-nothing : (below : Expanded) → laid below nothing ≡ below
unfolding laid replaced
laid-nothing below = refl

pub expanded-push : (layers : List Expanded) (layer : Expanded) → expanded (layers ++ layer ∷ []) ≡ laid (expanded layers) layer
unfolding expanded
expanded-push layers layer = fold-append laid nothing layers (layer ∷ [])

-- one more layer of a list
pub expanded-next : {X : Type 0} (f : X → Expanded) (xs : List X) (i : ℕ) (d : X)
    → i < length xs → laid (expanded (map f (take i xs))) (f (get_or xs i d)) ≡ expanded (map f (take (i + 1) xs))
expanded-next f xs i d h =
    sym (expanded-push (map f (take i xs)) (f (get_or xs i d)))
    ∙ ap expanded (sym (map-append f (take i xs) (get_or xs i d ∷ [])))
    ∙ ap (λ ys. expanded (map f ys)) (sym (take_more xs i d h))

-- the profiles of these names, laid
abbrev pub profiles_of : List Profile → List ℕ → List (List ℕ) → Expanded
profiles_of profiles home names = expanded (map (λ name. layer_of (profile_named profiles home name)) names)

pub profiles_of-same : (profiles others : List Profile) (home other : List ℕ) (names more : List (List ℕ))
    → profiles ≡ others → home ≡ other → names ≡ more → profiles_of profiles home names ≡ profiles_of others other more
profiles_of-same profiles others home other names more p h n =
    ap (λ rows. profiles_of rows home names) p ∙ ap (λ name. profiles_of others name names) h ∙ ap (profiles_of others other) n
