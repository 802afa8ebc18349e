-- The first of the lowest rule, among things that are seen one after the other.
use Rattle.std.proofs.Common.{◌≡◌, ℕ, ◌+◌, ◌≤◌, Bool, true, false, cond, List, [], ◌∷◌, ◌++◌, map, length, drop, slice_get, nat_le, Option, Some, None, refl, sym, ap, ◌∙◌, arith}
use Rattle.std.specs.List.{enumerate_from}
use Rattle.std.proofs.lemmas.Bool.Decides.{nat_tests}
use Rattle.std.proofs.lemmas.List.{at_drop_more, drop_all}
use Rattle.std.proofs.lemmas.Option.{slice_get_within, get_or_from_slice_get}
use Rattle.restrictions.specs.declared.forbidden.Forbidden.{Forbidden}
use Rattle.restrictions.specs.Forbids.{earlier, lowest}

pub earlier-none : (a : Option Forbidden) → earlier a None ≡ a
earlier-none None = refl
earlier-none (Some f) = refl

-- it does not matter which two are compared first
pub earlier_assoc : (a b c : Option Forbidden) → earlier (earlier a b) c ≡ earlier a (earlier b c)
earlier_assoc None b c = refl
earlier_assoc (Some f) None c = refl
earlier_assoc (Some f) (Some g) None = earlier-none (earlier (Some f) (Some g))
earlier_assoc (Some f) (Some g) (Some h) = by (nat_le f.rule g.rule) (nat_le g.rule h.rule) refl refl
  where
    by : (s t : Bool) → nat_le f.rule g.rule ≡ s → nat_le g.rule h.rule ≡ t → earlier (cond s (Some f) (Some g)) (Some h) ≡ earlier (Some f) (cond t (Some g) (Some h))
    by true true is is' = grind (arith, nat_tests)
    by true false is is' = refl
    by false true is is' = grind (arith, nat_tests)
    by false false is is' = grind (arith, nat_tests)

pub lowest-append : (xs ys : List (Option Forbidden)) → lowest (xs ++ ys) ≡ earlier (lowest xs) (lowest ys)
lowest-append [] ys = refl
lowest-append (x ∷ xs) ys = ap (earlier x) (lowest-append xs ys) ∙ sym (earlier_assoc x (lowest xs) (lowest ys))

module _ {X : Type 0} (item : ℕ × X → Option Forbidden) (xs : List X) (i : ℕ) (low : Option Forbidden) where
  -- the next one is seen
  pub lowest-next : (x : X) → slice_get xs i ≡ Some x → earlier low (lowest (map item (enumerate_from i (drop i xs)))) ≡ lowest (map item (enumerate_from 0 xs))
      → earlier (earlier low (item (i, x))) (lowest (map item (enumerate_from (i + 1) (drop (i + 1) xs)))) ≡ lowest (map item (enumerate_from 0 xs))
  lowest-next x at invariant =
      earlier_assoc low (item (i, x)) (lowest (map item (enumerate_from (i + 1) (drop (i + 1) xs))))
      ∙ ap (λ ys. earlier low (lowest (map item (enumerate_from i ys)))) (sym read) ∙ invariant
    where
      read : drop i xs ≡ x ∷ drop (i + 1) xs
      read = at_drop_more (λ ys. ys) xs i x (slice_get_within xs i x at) ∙ ap (λ y. y ∷ drop (i + 1) xs) (get_or_from_slice_get xs i x x at)

  -- all are seen
  pub lowest-all : length xs ≤ i → earlier low (lowest (map item (enumerate_from i (drop i xs)))) ≡ lowest (map item (enumerate_from 0 xs)) → low ≡ lowest (map item (enumerate_from 0 xs))
  lowest-all past invariant =
      sym (earlier-none low) ∙ ap (λ ys. earlier low (lowest (map item (enumerate_from i ys)))) (sym (drop_all i xs past)) ∙ invariant
