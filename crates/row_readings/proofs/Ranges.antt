-- The rows of a project in a list that rises by names follow one another, and what asks only of them asks of all.
use Rattle.std.proofs.Common.{◌≡◌, ℕ, zero, suc, ◌+◌, ◌-◌, ◌<◌, ◌≤◌, Bool, true, false, ◌&&◌, ◌||◌, cond, Option, None, List, [], ◌∷◌, length, get_or, filter, take, drop, refl, sym, ap, subst, ◌∙◌, ⊎_elim, ◌⊎◌, inl, inr, true≢false, arith}
use Rattle.std.specs.Cmp.{tied_itself}
use Rattle.std.specs.Cmp.Lexicographic.{slice_cmp}
use Rattle.std.specs.List.{AllWithin, list_any, sum_by}
use Rattle.std.specs.List.Sorted.{IsPartitionedBy, IsPartitionPoint}
use Rattle.std.specs.Option.{option_or}
use Rattle.std.specs.Ordering.{nat_cmp, is_lt, ordering_then}
use Rattle.std.specs.Str.{bytes_eq}
use Rattle.std.specs.declared.cmp.Ordering.{Ordering}
use Rattle.std.specs.declared.cmp.Ordering.TheVariants.{Less, Equal, Greater}
use Rattle.std.proofs.lemmas.Bool.{cases_lt}
use Rattle.std.proofs.lemmas.Cmp.{nat_list_cmp_total}
use Rattle.std.proofs.lemmas.List.{get_or-drop, length-drop}
use Rattle.std.proofs.Math.Seq.{take-length}
use Rattle.std.proofs.lemmas.List.Sums.{sum_by-cons}
use Rattle.std.proofs.lemmas.Map.Lookups.{exact_bytes}
use Rattle.config_lists.proofs.Keys.{same, bytes_eq-itself}
use Rattle.plain_lists.specs.Firsts.{first_of}
use Rattle.row_machine.specs.facts.Whole.{Rise}
use Rattle.row_readings.specs.Rising.{begins_with, comes_before}
use Rattle.row_readings.proofs.Risen.{is-less, rise-far}
use Rattle.row_readings.proofs.SameNames.{order}

-- ---- tests that pass at places that follow one another

module _ {X : Type 0} (p : X → Bool) where
  passes-nowhere : (xs : List X) → AllWithin (λ x. p x ≡ false) xs 0 (length xs) → filter p xs ≡ []
  passes-nowhere [] none = refl
  passes-nowhere (x ∷ xs) none =
      ap (λ b. cond b (x ∷ filter p xs) (filter p xs)) (none 0 x (omega arith) (omega arith))
      ∙ passes-nowhere xs (λ k d low high. none (suc k) d (omega arith) (omega (arith, high)))

  passes-in-front : (xs : List X) (n : ℕ) → n ≤ length xs → AllWithin (λ x. p x ≡ true) xs 0 n
      → AllWithin (λ x. p x ≡ false) xs n (length xs) → take n xs ≡ filter p xs
  passes-in-front [] zero within front back = refl
  passes-in-front [] (suc n) within front back = absurd (omega (arith, within))
  passes-in-front (x ∷ xs) zero within front back = sym (passes-nowhere (x ∷ xs) back)
  passes-in-front (x ∷ xs) (suc n) within front back =
      ap (λ ys. x ∷ ys) (passes-in-front xs n (omega (arith, within))
      (λ k d low high. front (suc k) d (omega arith) (omega (arith, high)))
      (λ k d low high. back (suc k) d (omega (arith, low)) (omega (arith, high))))
      ∙ sym (ap (λ b. cond b (x ∷ filter p xs) (filter p xs)) (front 0 x (omega arith) (omega arith)))

  passes-after : (xs : List X) (n : ℕ) → n ≤ length xs → AllWithin (λ x. p x ≡ false) xs 0 n → filter p (drop n xs) ≡ filter p xs
  passes-after xs zero within none = refl
  passes-after [] (suc n) within none = absurd (omega (arith, within))
  passes-after (x ∷ xs) (suc n) within none =
      passes-after xs n (omega (arith, within)) (λ k d low high. none (suc k) d (omega arith) (omega (arith, high)))
      ∙ sym (ap (λ b. cond b (x ∷ filter p xs) (filter p xs)) (none 0 x (omega arith) (omega arith)))

-- ---- names and the name of a project

module _ (project : List ℕ) where
  abbrev text_order : List ℕ → List ℕ → Ordering
  text_order = slice_cmp nat_cmp

  -- names of which the first comes before begin with another one
  before-other : (names : List (List ℕ)) → comes_before project names ≡ true → begins_with project names ≡ false
  before-other [] before = refl
  before-other (first ∷ more) before = at (bytes_eq first project) refl where
    at : (b : Bool) → bytes_eq first project ≡ b → b ≡ false
    at false is = refl
    at true is = absurd (true≢false (sym before ∙ ap (λ t. is_lt (text_order t project)) (same first project is) ∙ ap is_lt itself)) where
      itself : text_order project project ≡ Equal
      itself = tied_itself nat_list_cmp_total project

  not_greater : (a b : Ordering) → ordering_then a b ≡ Less → (a ≡ Less) ⊎ (a ≡ Equal)
  not_greater Less b e = inl refl
  not_greater Equal b e = inr refl
  not_greater Greater b e = cc

  -- names that go before others come before a project where those do
  before-back : (names others : List (List ℕ)) → order names others ≡ Less → comes_before project others ≡ true → comes_before project names ≡ true
  before-back [] others less before = refl
  before-back (x ∷ xs) [] less before = cc
  before-back (x ∷ xs) (y ∷ ys) less before =
      let y-less : text_order y project ≡ Less = is-less (text_order y project) before in
      ⊎_elim
      (λ x-less. ap is_lt (nat_list_cmp_total.trans x y project x-less y-less))
      (λ equal. ap is_lt (nat_list_cmp_total.congr x y project equal ∙ y-less))
      (not_greater (text_order x y) (order xs ys) less)

  -- names that go before others, and not before the project of those, begin with it too
  begins-back : (names others : List (List ℕ)) → order names others ≡ Less → comes_before project names ≡ false
      → begins_with project others ≡ true → begins_with project names ≡ true
  begins-back [] others less from begins = absurd (true≢false from)
  begins-back (x ∷ xs) [] less from begins = cc
  begins-back (x ∷ xs) (y ∷ ys) less from begins =
      let is : y ≡ project = same y project begins in
      ⊎_elim
      (λ x-less. absurd (true≢false (sym (ap is_lt x-less) ∙ ap (λ t. is_lt (text_order x t)) is ∙ from)))
      (λ equal. subst (λ t. bytes_eq t project ≡ true) (sym (exact_bytes x y equal ∙ is)) (bytes_eq-itself project))
      (not_greater (text_order x y) (order xs ys) less)

-- ---- the rows of a project in a list that rises

module _ {X : Type 0} (names : X → List (List ℕ)) (project : List ℕ) (xs : List X) (up : Rise names xs) where
  abbrev before : X → Bool
  before = λ row. comes_before project (names row)

  abbrev begins : X → Bool
  begins = λ row. begins_with project (names row)

  pub rows-before : IsPartitionedBy before xs
  rows-before i j d ordered within is = ⊎_elim
      (λ ahead. before-back project (names (get_or xs i d)) (names (get_or xs j d)) (rise-far names xs i j d up ahead within) is)
      (λ from. let equal : j ≡ i = omega (ordered, from, arith) in subst (λ k. before (get_or xs k d) ≡ true) equal is)
      (cases_lt i j)

  module _ (from : ℕ) (inside : from ≤ length xs) (parts : IsPartitionPoint (λ row. before row ≡ true) (λ row. before row ≡ false) xs from) where
    pub rows-begin : IsPartitionedBy begins (drop from xs)
    rows-begin i j d ordered within is = ⊎_elim
        (λ ahead. subst (λ x. begins x ≡ true) (sym (get_or-drop from xs i d))
        (begins-back project (names (get_or xs (from + i) d)) (names (get_or xs (from + j) d))
        (rise-far names xs (from + i) (from + j) d up (omega (ahead, arith)) (far within))
        (parts.1 (from + i) d (omega arith) (omega (ahead, far within, arith)))
        (subst (λ x. begins x ≡ true) (get_or-drop from xs j d) is)))
        (λ other. let equal : j ≡ i = omega (ordered, other, arith) in subst (λ k. begins (get_or (drop from xs) k d) ≡ true) equal is)
        (cases_lt i j) where
          far : j < length (drop from xs) → from + j < length xs
          far less = omega (less, length-drop from xs, inside, arith)

    pub rows-of : (count : ℕ) → count ≤ length (drop from xs)
        → IsPartitionPoint (λ row. begins row ≡ true) (λ row. begins row ≡ false) (drop from xs) count
        → take count (drop from xs) ≡ filter begins xs
    rows-of count within found =
        passes-in-front begins (drop from xs) count within found.0 found.1
        ∙ passes-after begins xs from inside (λ k d low high. before-other project (names (get_or xs k d)) (parts.0 k d low high))

    -- what a slice from that place on has of them
    pub rows-found : (count : ℕ) (ys : List X) → ys ≡ drop from xs → count ≤ length ys
        → (IsPartitionedBy begins ys → IsPartitionPoint (λ row. begins row ≡ true) (λ row. begins row ≡ false) ys count)
        → take count ys ≡ filter begins xs
    rows-found count ys is = subst Finds (sym is) (λ within found. rows-of count within (found rows-begin)) where
      Finds : List X → Type 0
      Finds zs = count ≤ length zs
          → (IsPartitionedBy begins zs → IsPartitionPoint (λ row. begins row ≡ true) (λ row. begins row ≡ false) zs count)
          → take count zs ≡ filter begins xs

-- all that a list has from a place on
pub all-left : {X : Type 0} (from : ℕ) (xs : List X) → take (length xs - from) (drop from xs) ≡ drop from xs
all-left from xs = ap (λ n. take n (drop from xs)) (sym (length-drop from xs)) ∙ take-length (drop from xs)

-- texts that differ do so from either side
pub apart : (a b : List ℕ) → bytes_eq a b ≡ false → bytes_eq b a ≡ false
apart a b other = at (bytes_eq b a) refl where
  at : (c : Bool) → bytes_eq b a ≡ c → c ≡ false
  at false is = refl
  at true is = absurd (true≢false (sym (bytes_eq-itself a) ∙ ap (bytes_eq a) (sym (same b a is)) ∙ other))

-- ---- what asks only of the rows that pass a test

-- a rule that none of the other rows breaks
pub first_of-filter : {X R : Type 0} (rule : X → Option R) (p : X → Bool) (xs : List X)
    → ((x : X) → p x ≡ false → rule x ≡ None) → first_of rule (filter p xs) ≡ first_of rule xs
first_of-filter rule p [] other = refl
first_of-filter {X} {R} rule p (x ∷ xs) other = at (p x) refl (first_of-filter rule p xs other) where
  at : (b : Bool) → p x ≡ b → first_of rule (filter p xs) ≡ first_of rule xs
      → first_of rule (cond b (x ∷ filter p xs) (filter p xs)) ≡ option_or (rule x) (first_of rule xs)
  at true is more = ap (option_or (rule x)) more
  at false is more = more ∙ sym (ap (λ o. option_or o (first_of rule xs)) (other x is))

-- a sum to which none of the other rows adds
pub sum_by-filter : {X : Type 0} (f : X → ℕ) (p : X → Bool) (xs : List X)
    → ((x : X) → p x ≡ false → f x ≡ 0) → sum_by f (filter p xs) ≡ sum_by f xs
sum_by-filter f p [] other = refl
sum_by-filter {X} f p (x ∷ xs) other = at (p x) refl (sum_by-filter f p xs other) where
  at : (b : Bool) → p x ≡ b → sum_by f (filter p xs) ≡ sum_by f xs
      → sum_by f (cond b (x ∷ filter p xs) (filter p xs)) ≡ sum_by f (x ∷ xs)
  at true is more = omega (more, sum_by-cons f x xs, sum_by-cons f x (filter p xs), arith)
  at false is more = more ∙ omega (sum_by-cons f x xs, other x is, arith)

-- a test that none of the other rows passes
pub filter-filter : {X : Type 0} (q : X → Bool) (p : X → Bool) (xs : List X)
    → ((x : X) → p x ≡ false → q x ≡ false) → filter q (filter p xs) ≡ filter q xs
filter-filter q p [] other = refl
filter-filter {X} q p (x ∷ xs) other = at (p x) refl (filter-filter q p xs other) where
  at : (b : Bool) → p x ≡ b → filter q (filter p xs) ≡ filter q xs
      → filter q (cond b (x ∷ filter p xs) (filter p xs)) ≡ cond (q x) (x ∷ filter q xs) (filter q xs)
  at true is more = ap (λ ys. cond (q x) (x ∷ ys) ys) more
  at false is more = more ∙ sym (ap (λ c. cond c (x ∷ filter q xs) (filter q xs)) (other x is))

-- a row that passes one test passes another
pub list_any-filter : {X : Type 0} (q : X → Bool) (p : X → Bool) (xs : List X) → list_any q (filter p xs) ≡ list_any (λ x. p x && q x) xs
list_any-filter q p [] = refl
list_any-filter {X} q p (x ∷ xs) = at (p x) (list_any-filter q p xs) where
  at : (b : Bool) → list_any q (filter p xs) ≡ list_any (λ y. p y && q y) xs
      → list_any q (cond b (x ∷ filter p xs) (filter p xs)) ≡ ((b && q x) || list_any (λ y. p y && q y) xs)
  at true more = ap (λ c. q x || c) more
  at false more = more
