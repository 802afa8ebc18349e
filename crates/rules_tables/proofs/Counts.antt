-- How many are read.
use Rattle.std.proofs.Common.{◌≡◌, ℕ, ◌+◌, ◌≤◌, ◌<◌, Option, Some, None, List, [], ◌∷◌, ◌++◌, length, take, get_or, refl, sym, ap, ◌∙◌, arith, length-append}
use Rattle.std.specs.List.{filter_map, cons_option}
use Rattle.std.specs.Option.{option_to_list}
use Rattle.std.proofs.lemmas.List.{take_more}
use Rattle.std.proofs.lemmas.List.Elements.{filter_map-append}

-- how many are read of the first ones, which are no more than these
pub record Counted {X Y : Type 0} (h : X → Option Y) (xs : List X) (i count : ℕ) : Type 0 where
  pub is : count ≡ length (filter_map h (take i xs))
  pub few : count ≤ i

one : {Y : Type 0} (o : Option Y) → length (cons_option o []) ≡ length (option_to_list o)
one None = refl
one (Some y) = refl

pub counted-more : {X Y : Type 0} (h : X → Option Y) (xs : List X) (i count more : ℕ) (x : X) → i < length xs → x ≡ get_or xs i x
    → Counted h xs i count → more ≡ length (option_to_list (h x)) → more ≤ 1 → Counted h xs (i + 1) (count + more)
counted-more h xs i count more x within is before e le = record {
  is =
      let parts = length-append (filter_map h (take i xs)) (filter_map h (x ∷ [])) in
      let all : filter_map h (take (i + 1) xs) ≡ filter_map h (take i xs) ++ filter_map h (x ∷ []) =
      ap (filter_map h) (take_more xs i x within ∙ ap (λ y. take i xs ++ y ∷ []) (sym is)) ∙ filter_map-append h (take i xs) (x ∷ []) in
      omega (arith, before.is, e, one (h x), parts, ap length all);
  few = omega (arith, before.few);
}
