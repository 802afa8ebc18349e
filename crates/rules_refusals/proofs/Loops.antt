-- The steps of a loop that asks one object after another for the rule that it breaks.
use Rattle.std.proofs.Common.{◌≡◌, ℕ, zero, suc, ◌+◌, ◌<◌, ◌≤◌, Bool, true, false, cond, if◌then◌else◌, List, [], ◌∷◌, length, filter, take, drop, get_or, slice_get, Option, Some, None, refl, sym, ap, ◌∙◌, arith}
use Rattle.std.specs.Option.{option_or}
use Rattle.std.proofs.lemmas.List.{drop_all}
use Rattle.plain_lists.specs.Firsts.{first_of}
use Rattle.plain_lists.proofs.FirstLemmas.{first_of-at, first_of-next}

module _ {X R : Type 0} (rule : X → Option R) (xs : List X) (i : ℕ) (x : X) (within : i < length xs) (is : x ≡ get_or xs i x) (before : first_of rule (take i xs) ≡ None) where
  -- those before break nothing, and this one does: its answer is the first
  pub tells-here : (told : Option R) (r : R) → told ≡ rule x → told ≡ Some r → Some r ≡ first_of rule xs
  tells-here told r e s = sym (first_of-at rule xs i x r within before (ap rule (sym is) ∙ sym e ∙ s))

  -- nor does this one break anything
  pub tells-next : (told : Option R) → told ≡ rule x → told ≡ None → first_of rule (take (i + 1) xs) ≡ None
  tells-next told e n = first_of-next rule xs i x within before (ap rule (sym is) ∙ sym e ∙ n)

-- the same over places: what is at a place decides, and then what is after it
from-place : {X R : Type 0} (rule : X → Option R) (xs : List X) (i : ℕ) (x : X) → slice_get xs i ≡ Some x
    → first_of rule (drop i xs) ≡ option_or (rule x) (first_of rule (drop (i + 1) xs))
from-place rule [] zero x at = cc
from-place rule [] (suc i) x at = cc
from-place rule (y ∷ ys) zero x at = let same : y ≡ x = cc in ap (λ z. option_or (rule z) (first_of rule ys)) same
from-place rule (y ∷ ys) (suc i) x at =
    let step : suc (i + 1) ≡ suc i + 1 = omega arith in
    from-place rule ys i x at ∙ ap (λ n. option_or (rule x) (first_of rule (drop n (y ∷ ys)))) step

module _ {X R : Type 0} (rule : X → Option R) (xs : List X) (i : ℕ) (x : X) (at : slice_get xs i ≡ Some x) (before : first_of rule (drop i xs) ≡ first_of rule xs) where
  pub place-here : (told : Option R) (r : R) → told ≡ rule x → told ≡ Some r → Some r ≡ first_of rule xs
  place-here told r e s = ap (λ o. option_or o (first_of rule (drop (i + 1) xs))) (sym s ∙ e) ∙ sym (from-place rule xs i x at) ∙ before

  pub place-next : (told : Option R) → told ≡ rule x → told ≡ None → first_of rule (drop (i + 1) xs) ≡ first_of rule xs
  place-next told e n = ap (λ o. option_or o (first_of rule (drop (i + 1) xs))) (sym n ∙ e) ∙ sym (from-place rule xs i x at) ∙ before

-- after the last place there is nothing
pub place-end : {X R : Type 0} (rule : X → Option R) (xs : List X) (i : ℕ) → length xs ≤ i → first_of rule (drop i xs) ≡ first_of rule xs → None ≡ first_of rule xs
place-end rule xs i past before = ap (first_of rule) (sym (drop_all i xs past)) ∙ before

-- a rule over those that pass a test
pub first_of-filter : {X R : Type 0} (rule : X → Option R) (test : X → Bool) (xs : List X)
    → first_of rule (filter test xs) ≡ first_of (λ x. if test x then rule x else None) xs
first_of-filter rule test [] = refl
first_of-filter {X} {R} rule test (x ∷ xs) = at (test x) (first_of-filter rule test xs) where
  at : (b : Bool) → first_of rule (filter test xs) ≡ first_of (λ y. if test y then rule y else None) xs
      → first_of rule (cond b (x ∷ filter test xs) (filter test xs)) ≡ option_or (cond b (rule x) None) (first_of (λ y. if test y then rule y else None) xs)
  at true more = ap (option_or (rule x)) more
  at false more = more
