-- Facts on lists: a filter of which the passing elements stand together, and two sorted lists joined.
use Rattle.std.proofs.Common.{◌≡◌, ℕ, zero, suc, ◌+◌, ◌<◌, Bool, true, false, cond, List, [], ◌∷◌, ◌++◌, length, take, drop, set, get_or, refl, ap, ◌∙◌, subst, ⊎_elim, arith}
use Rattle.std.specs.List.{filter, AllWithin, HoldsAt, AllByRecursion}
use Rattle.std.proofs.lemmas.Bool.{cases_lt}
use Rattle.std.specs.List.Sorted.{IsStrictlySortedBy}
use Rattle.std.specs.declared.cmp.Ordering.{Ordering}
use Rattle.std.specs.declared.cmp.Ordering.TheVariants.{Less}

module _ {X : Type 0} (p : X → Bool) where
  -- all elements fail
  filter-failing : (xs : List X) → AllWithin (λ x. p x ≡ false) xs 0 (length xs) → filter p xs ≡ []
  filter-failing [] h = refl
  filter-failing (x ∷ xs) h =
      ap (λ b. cond b (x ∷ filter p xs) (filter p xs)) (h 0 x (omega arith) (omega arith))
      ∙ filter-failing xs (λ k d low high. h (suc k) d (omega arith) (omega arith))

  -- all elements pass
  filter-passing : (xs : List X) → AllWithin (λ x. p x ≡ true) xs 0 (length xs) → filter p xs ≡ xs
  filter-passing [] h = refl
  filter-passing (x ∷ xs) h =
      ap (λ b. cond b (x ∷ filter p xs) (filter p xs)) (h 0 x (omega arith) (omega arith))
      ∙ ap (λ ys. x ∷ ys) (filter-passing xs (λ k d low high. h (suc k) d (omega arith) (omega arith)))

  -- the first i elements pass and the others fail
  pub filter-front : (xs : List X) (i : ℕ) → AllWithin (λ x. p x ≡ true) xs 0 i → AllWithin (λ x. p x ≡ false) xs i (length xs) → filter p xs ≡ take i xs
  filter-front xs zero passes fails = filter-failing xs fails
  filter-front [] (suc i) passes fails = refl
  filter-front (x ∷ xs) (suc i) passes fails =
      ap (λ b. cond b (x ∷ filter p xs) (filter p xs)) (passes 0 x (omega arith) (omega arith))
      ∙ ap (λ ys. x ∷ ys)
      (filter-front xs i
      (λ k d low high. passes (suc k) d (omega arith) (omega arith))
      (λ k d low high. fails (suc k) d (omega arith) (omega arith)))

  -- the first i elements fail and the others pass
  pub filter-back : (xs : List X) (i : ℕ) → AllWithin (λ x. p x ≡ false) xs 0 i → AllWithin (λ x. p x ≡ true) xs i (length xs) → filter p xs ≡ drop i xs
  filter-back xs zero fails passes = filter-passing xs passes
  filter-back [] (suc i) fails passes = refl
  filter-back (x ∷ xs) (suc i) fails passes =
      ap (λ b. cond b (x ∷ filter p xs) (filter p xs)) (fails 0 x (omega arith) (omega arith))
      ∙ filter-back xs i
      (λ k d low high. fails (suc k) d (omega arith) (omega arith))
      (λ k d low high. passes (suc k) d (omega arith) (omega arith))

module _ {X : Type 0} where
  pub each-append : (P : X → Type 0) (xs ys : List X) → AllByRecursion P xs → AllByRecursion P ys → AllByRecursion P (xs ++ ys)
  each-append P [] ys front back = back
  each-append P (x ∷ xs) ys front back = (front.0, each-append P xs ys front.1 back)

  pub each-map : (P Q : X → Type 0) → ((x : X) → P x → Q x) → (xs : List X) → AllByRecursion P xs → AllByRecursion Q xs
  each-map P Q weaker [] h = tt
  each-map P Q weaker (x ∷ xs) h = (weaker x h.0, each-map P Q weaker xs h.1)

  -- what passes a filter passes its test
  pub each-filter : (p : X → Bool) (xs : List X) → AllByRecursion (λ x. p x ≡ true) (filter p xs)
  each-filter p [] = tt
  each-filter p (x ∷ xs) = of (p x) refl (each-filter p xs)
    where
      of : (b : Bool) → p x ≡ b → AllByRecursion (λ y. p y ≡ true) (filter p xs) → AllByRecursion (λ y. p y ≡ true) (cond b (x ∷ filter p xs) (filter p xs))
      of true e rest = (e, rest)
      of false e rest = rest

  -- a fact of the element at a place and of all after it, or of all before it
  pub within-from : (P : X → Type 0) (xs : List X) (i n : ℕ) → HoldsAt P xs i → AllWithin P xs (i + 1) n → AllWithin P xs i n
  within-from P xs i n at above k d low high = ⊎_elim
      (λ before. above k d (omega arith) high)
      (λ at_most. let same : i ≡ k = omega arith in subst (λ j. P (get_or xs j d)) same (at d))
      (cases_lt i k)

  pub within-to : (P : X → Type 0) (xs : List X) (i : ℕ) → AllWithin P xs 0 i → HoldsAt P xs i → AllWithin P xs 0 (i + 1)
  within-to P xs i below at k d low high = ⊎_elim
      (λ before. below k d low before)
      (λ at_least. let same : i ≡ k = omega arith in subst (λ j. P (get_or xs j d)) same (at d))
      (cases_lt k i)

  -- an element written over, as the list around it
  pub set-split : (xs : List X) (i : ℕ) (y : X) → i < length xs → set xs i y ≡ take i xs ++ y ∷ drop (i + 1) xs
  set-split [] i y h = absurd (omega arith)
  set-split (x ∷ xs) zero y h = refl
  set-split (x ∷ xs) (suc i) y h = let e : suc (i + 1) ≡ suc i + 1 = omega arith in
      ap (λ ys. x ∷ ys) (set-split xs i y (omega arith)) ∙ ap (λ j. x ∷ take i xs ++ y ∷ drop j (x ∷ xs)) e

  -- a sorted list, and after it another all of whose elements are above it
  pub sorted-append : (c : X → X → Ordering) (xs ys : List X)
      → IsStrictlySortedBy c xs → IsStrictlySortedBy c ys → AllByRecursion (λ x. AllByRecursion (λ y. c x y ≡ Less) ys) xs
      → IsStrictlySortedBy c (xs ++ ys)
  unfolding IsStrictlySortedBy
  sorted-append c [] ys front back between = back
  sorted-append c (x ∷ xs) ys front back between = (each-append _ xs ys front.0 between.0, sorted-append c xs ys front.1 back between.1)
