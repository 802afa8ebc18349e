-- A table with a line for each element of a list that rises by names, of which one line changes.
use Rattle.std.proofs.Common.{◌≡◌, ℕ, zero, suc, ◌<◌, Bool, true, false, Some, None, List, [], ◌∷◌, length, map, get_or, set, position, refl, sym, ap, ap₂, ◌∙◌, inr, arith}
use Rattle.std.specs.Ordering.{ordering_reverse}
use Rattle.std.specs.declared.cmp.Ordering.TheVariants.{Greater}
use Rattle.std.proofs.lemmas.List.Quantifiers.{position-Some}
use Rattle.plain_lists.specs.Members.{Each}
use Rattle.plain_lists.proofs.Elements.{Each-head, Each-tail, Each-map}
use Rattle.plain_lists.proofs.Places.{any-position}
use Rattle.plain_lists.proofs.Searches.{any-none}
use Rattle.row_machine.specs.facts.Whole.{Rise}
use Rattle.row_machine.specs.machine.Rows.{same_names, texts_before}
use Rattle.row_readings.proofs.Risen.{is-less}
use Rattle.row_readings.proofs.SameNames.{order, total, same-is, same-other}

module _ {X Y : Type 0} (names : X → List (List ℕ)) (wanted : List (List ℕ)) (f g : X → Y)
    (stays : (x : X) → same_names (names x) wanted ≡ false → f x ≡ g x) where
  abbrev test : X → Bool
  test = λ x. same_names (names x) wanted

  lines-stay : (xs : List X) → Each (λ x. test x ≡ false) xs → map f xs ≡ map g xs
  lines-stay [] others = refl
  lines-stay (x ∷ xs) others = ap₂ (λ y ys. y ∷ ys) (stays x (Each-head others)) (lines-stay xs (Each-tail others))

  -- what comes after the element of these names has others
  after : (x y : X) → test x ≡ true → texts_before (names x) (names y) ≡ true → test y ≡ false
  after x y is before =
      same-other (names y) wanted Greater
      (ap (order (names y)) (sym (same-is (names x) wanted is)) ∙ total.antisymm (names y) (names x) ∙ ap ordering_reverse (is-less _ before))
      (inr refl)

  line-at : (xs : List X) (i : ℕ) (d : X) → Rise names xs → i < length xs → test (get_or xs i d) ≡ true
      → ((k : ℕ) → k < i → test (get_or xs k d) ≡ false) → set (map f xs) i (g (get_or xs i d)) ≡ map g xs
  line-at [] i d up within is others = absurd (omega (arith, within))
  line-at (x ∷ xs) zero d up within is others =
      ap (λ ys. g x ∷ ys) (lines-stay xs (Each-map (λ y before. after x y is before) up.0))
  line-at (x ∷ xs) (suc i) d up within is others =
      ap₂ (λ y ys. y ∷ ys) (stays x (others 0 (omega arith)))
      (line-at xs i d up.1 (omega (arith, within)) is (λ k below. others (suc k) (omega (arith, below))))

  -- one line changes, or none
  pub line-changed : (xs : List X) (i : ℕ) (d : X) → Rise names xs → position test xs ≡ Some i → set (map f xs) i (g (get_or xs i d)) ≡ map g xs
  line-changed xs i d up at =
      let found = position-Some test xs i d at in
      line-at xs i d up found.0 found.1 found.2

  pub lines-same : (xs : List X) → position test xs ≡ None → map f xs ≡ map g xs
  lines-same xs nowhere = lines-stay xs (any-none test xs (any-position test xs (sym nowhere)))
