-- Where names stand in a list that rises by them, as a binary search finds them.
use Rattle.std.proofs.Common.{◌≡◌, ℕ, zero, suc, ◌+◌, ◌<◌, ◌≤◌, Bool, true, false, cond, not, nat_lt, Some, None, Result, Ok, Err, List, [], ◌∷◌, length, get_or, position, refl, sym, ap, subst, ◌∙◌, ⊎_elim, inl, inr, true≢false, Decides, lt-ltb, le-ltb, arith}
use Rattle.std.specs.List.{position_or_len, AllWithin, HoldsAt, AllAdjacentBelow, IsAllAdjacentAnswer}
use Rattle.std.specs.List.Sorted.{IsSortedBy, IsBinarySearchResult, IsSearchInRange, IsPartitionPoint}
use Rattle.std.specs.declared.cmp.Ordering.{Ordering}
use Rattle.std.specs.declared.cmp.Ordering.TheVariants.{Less, Equal, Greater}
use Rattle.std.specs.Ordering.{is_lt, ordering_reverse}
use Rattle.std.proofs.lemmas.Bool.{cases_lt}
use Rattle.std.proofs.lemmas.List.Sorted.{searchable_from_sorted}
use Rattle.plain_lists.proofs.Elements.{Each-none, Each-cons, Each-map, Each-get_or}
use Rattle.row_machine.specs.facts.Whole.{Rise}
use Rattle.row_machine.specs.machine.Rows.{same_names, texts_before}
use Rattle.row_readings.specs.Rising.{FindsPlace}
use Rattle.row_readings.proofs.SameNames.{order, total, same-Equal, same-other}

-- ---- the first place at which a test passes

module _ {X : Type 0} (p : X → Bool) where
  pub first-at : (xs : List X) (i : ℕ) → i ≤ length xs → AllWithin (λ x. p x ≡ false) xs 0 i
      → (i < length xs → HoldsAt (λ x. p x ≡ true) xs i) → position_or_len p xs ≡ i
  first-at [] zero within below at = refl
  first-at [] (suc i) within below at = absurd (omega (arith, within))
  first-at (x ∷ xs) zero within below at = ap (λ b. cond (not b) (1 + position_or_len p xs) 0) (at (omega arith) x)
  first-at (x ∷ xs) (suc i) within below at =
      let rest : position_or_len p xs ≡ i = first-at xs i (omega (arith, within))
      (λ k d low high. below (suc k) d (omega arith) (omega (arith, high)))
      (λ more. at (omega (arith, more))) in
      let next : 1 + position_or_len p xs ≡ suc i = omega (arith, rest) in
      ap (λ b. cond (not b) (1 + position_or_len p xs) 0) (below 0 x (omega arith) (omega arith)) ∙ next

  pub position-at : (xs : List X) (i : ℕ) → i < length xs → position_or_len p xs ≡ i → position p xs ≡ Some i
  position-at xs i within is =
      ap (λ n. cond (nat_lt n (length xs)) (Some n) None) is
      ∙ ap (λ b. cond b (Some i) None) (lt-ltb i (length xs) within)

  pub position-nowhere : (xs : List X) → position_or_len p xs ≡ length xs → position p xs ≡ None
  position-nowhere xs is =
      ap (λ n. cond (nat_lt n (length xs)) (Some n) None) is
      ∙ ap (λ b. cond b (Some (length xs)) None) (le-ltb (length xs) (length xs) (omega arith))

-- ---- lists that rise

pub is-less : (o : Ordering) → is_lt o ≡ true → o ≡ Less
is-less Less h = refl
is-less Equal h = cc
is-less Greater h = cc

module _ {X : Type 0} (names : X → List (List ℕ)) where
  pub rise-far : (xs : List X) (i j : ℕ) (d : X) → Rise names xs → i < j → j < length xs
      → order (names (get_or xs i d)) (names (get_or xs j d)) ≡ Less
  rise-far [] i j d up ahead within = absurd (omega (arith, within))
  rise-far (x ∷ xs) i zero d up ahead within = absurd (omega (arith, ahead))
  rise-far (x ∷ xs) zero (suc j) d up ahead within = is-less _ (Each-get_or j d up.0 (omega (arith, within)))
  rise-far (x ∷ xs) (suc i) (suc j) d up ahead within = rise-far xs i j d up.1 (omega (arith, ahead)) (omega (arith, within))

  after : (a b : List (List ℕ)) (o : Ordering) → order a b ≡ o → order b a ≡ ordering_reverse o
  after a b o is = total.antisymm b a ∙ ap ordering_reverse is

  pub rise-sorted : (xs : List X) → Rise names xs → IsSortedBy (λ x y. is_lt (order (names x) (names y))) xs
  rise-sorted xs up k d low high =
      ap is_lt (after (names (get_or xs k d)) (names (get_or xs (k + 1) d)) Less (rise-far xs k (k + 1) d up (omega arith) high))

  module _ (wanted : List (List ℕ)) (xs : List X) (up : Rise names xs) where
    abbrev test : X → Bool
    test = λ row. same_names (names row) wanted

    abbrev ahead : X → Bool
    ahead = λ row. texts_before wanted (names row)

    found-at : (i : ℕ) → i < length xs → HoldsAt (λ y. order (names y) wanted ≡ Equal) xs i → position test xs ≡ Some i
    found-at i within at = position-at test xs i within (first-at test xs i (omega (arith, within)) below (λ _ d. same-Equal _ wanted (at d))) where
      below : AllWithin (λ row. test row ≡ false) xs 0 i
      below k d low high =
          same-other (names (get_or xs k d)) wanted Less
          (before (names (get_or xs k d)) (names (get_or xs i d)) wanted (rise-far xs k i d up high within) (at d))
          (inl refl) where
            before : (a b c : List (List ℕ)) → order a b ≡ Less → order b c ≡ Equal → order a c ≡ Less
            before a b c less equal =
                after c a Greater (sym (total.congr b c a equal) ∙ after a b Less less)

    found-nowhere : (i : ℕ) → i ≤ length xs → IsPartitionPoint (λ y. order (names y) wanted ≡ Less) (λ y. order (names y) wanted ≡ Greater) xs i
        → (position test xs ≡ None) × (position_or_len ahead xs ≡ i)
    found-nowhere i within parts = (
      position-nowhere test xs (first-at test xs (length xs) (omega arith) none (λ more. absurd (omega (arith, more)))),
      first-at ahead xs i within
          (λ k d low high. ap is_lt (after (names (get_or xs k d)) wanted Less (parts.0 k d low high)))
          (λ more d. ap is_lt (after (names (get_or xs i d)) wanted Greater (parts.1 i d (omega arith) more))),
    ) where
      none : AllWithin (λ row. test row ≡ false) xs 0 (length xs)
      none k d low high = ⊎_elim
          (λ before. same-other _ wanted Less (parts.0 k d low before) (inl refl))
          (λ from. same-other _ wanted Greater (parts.1 k d from high) (inr refl))
          (cases_lt k i)

    -- a binary search finds the place of the names
    pub found : (r : Result ℕ ℕ) → IsSearchInRange r (length xs) → IsBinarySearchResult (λ y. order (names y) wanted) xs r → FindsPlace names wanted xs r
    found (Ok i) within at = found-at i within at
    found (Err i) within parts = found-nowhere i within (parts (searchable_from_sorted total names xs wanted (rise-sorted xs up)))

-- ---- whether a list rises

module _ {X : Type 0} (names : X → List (List ℕ)) where
  rise-next : (xs : List X) → AllAdjacentBelow (λ x y. true ≡ is_lt (order (names x) (names y))) xs (length xs) → Rise names xs
  rise-next [] each = tt
  rise-next (x ∷ []) each = (Each-none, tt)
  rise-next (x ∷ y ∷ ys) each =
      let rest : Rise names (y ∷ ys) = rise-next (y ∷ ys) (λ k d within.
      let further : suc k + 1 ≡ suc (k + 1) = omega arith in
      subst (λ n. true ≡ is_lt (order (names (get_or (y ∷ ys) k d)) (names (get_or (x ∷ y ∷ ys) n d)))) further
      (each (suc k) d (omega (arith, within)))) in
      let first : texts_before (names x) (names y) ≡ true = sym (each 0 x (omega arith)) in (
        Each-cons (λ z. texts_before (names x) (names z) ≡ true) first
            (Each-map (λ z then. ap is_lt (total.trans (names x) (names y) (names z) (is-less _ first) (is-less _ then))) rest.0),
        rest,
      )

  -- each is before the next one, or some is not
  pub rises-by : (xs : List X) (answer : Bool) → IsAllAdjacentAnswer (λ x y b. b ≡ is_lt (order (names x) (names y))) xs answer
      → Decides answer (Rise names xs)
  rises-by xs true each = (λ _. rise-next xs each, λ _. refl)
  rises-by [] false some = absurd (omega (arith, some.1))
  rises-by (x ∷ xs) false some = (
    λ yes. absurd (true≢false (sym yes)),
    λ up. some.2 x ∙ ap is_lt (rise-far names (x ∷ xs) some.0 (some.0 + 1) x up (omega arith) some.1),
  )
