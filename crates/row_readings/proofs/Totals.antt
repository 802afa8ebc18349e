-- Sums of what counts for limits.
use Rattle.std.proofs.Common.{◌≡◌, ℕ, ◌+◌, ◌*◌, ◌<◌, ◌≤◌, ◌^◌, Bool, true, false, cond, Option, Some, None, List, [], ◌∷◌, ◌++◌, length, take, get_or, refl, sym, ap, ◌∙◌, append_assoc, arith}
use Rattle.std.specs.List.{sum_by, filter_map, cons_option}
use Rattle.std.specs.Option.{option_to_list}
use Rattle.std.specs.Str.{bytes_eq}
use Rattle.std.proofs.lemmas.List.{take_more}
use Rattle.std.proofs.lemmas.List.Elements.{All-weaker, filter_map-append}
use Rattle.std.proofs.lemmas.List.Sums.{sum_by-le}
use Rattle.size_values.specs.Amounts.{part}
use Rattle.size_values.specs.declared.amounts.Part.{Part}
use Rattle.row_machine.specs.machine.Usage.{Load, amount_for}
use Rattle.row_readings.specs.Loads.{IsSmall, AreSmall}

counted-small : (project : List ℕ) (k : Part) (load : Load) → IsSmall load → amount_for project k load ≤ 2 ^ 63
counted-small project k load small = at (bytes_eq load.project project) (small.parts k) where
  at : (t : Bool) → part k load.amounts < 2 ^ 63 → cond t (part k load.amounts) 0 ≤ 2 ^ 63
  at true low = omega arith
  at false low = omega arith

pub sum-small : (project : List ℕ) (k : Part) (loads : List Load) → AreSmall loads → sum_by (amount_for project k) loads ≤ length loads * 2 ^ 63
sum-small project k loads small =
    sum_by-le (amount_for project k) (2 ^ 63) loads (All-weaker IsSmall (λ load. amount_for project k load ≤ 2 ^ 63) (counted-small project k) loads small)

-- one more element, of which something is read or nothing
pub read-next : {X Y : Type 0} (f : X → Option Y) (front : List Y) (xs : List X) (i : ℕ) (x : X)
    → i < length xs → x ≡ get_or xs i x
    → (front ++ filter_map f (take i xs)) ++ option_to_list (f x) ≡ front ++ filter_map f (take (i + 1) xs)
read-next {X} {Y} f front xs i x h is =
    append_assoc front (filter_map f (take i xs)) (option_to_list (f x))
    ∙ ap (λ ys. front ++ ys)
    (ap (λ ys. filter_map f (take i xs) ++ ys) (at (f x)) ∙ sym (filter_map-append f (take i xs) (x ∷ []))
    ∙ ap (λ y. filter_map f (take i xs ++ y ∷ [])) is ∙ ap (filter_map f) (sym (take_more xs i x h))) where
      at : (o : Option Y) → option_to_list o ≡ cons_option o []
      at None = refl
      at (Some y) = refl
