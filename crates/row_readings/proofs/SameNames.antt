-- The names of a row are the same as others where none goes before the other.
use Rattle.std.proofs.Common.{◌≡◌, ℕ, Bool, true, false, ◌⊎◌, inl, inr, List, [], ◌∷◌, refl, sym, ap, ◌∙◌, true≢false}
use Rattle.std.specs.Cmp.{IsTotalOrder, tied_itself}
use Rattle.std.specs.Cmp.Lexicographic.{slice_cmp}
use Rattle.std.specs.declared.cmp.Ordering.{Ordering}
use Rattle.std.specs.declared.cmp.Ordering.TheVariants.{Less, Equal, Greater}
use Rattle.std.specs.Ordering.{nat_cmp, is_lt, is_gt, ordering_then}
use Rattle.std.specs.Str.{bytes_eq}
use Rattle.std.proofs.lemmas.Cmp.{nat_list_cmp_total, lists_total}
use Rattle.std.proofs.lemmas.Map.Lookups.{exact_bytes}
use Rattle.config_lists.proofs.Keys.{same, bytes_eq-itself}
use Rattle.row_machine.specs.machine.Rows.{same_names}

-- the order of lists of texts
abbrev pub order : List (List ℕ) → List (List ℕ) → Ordering
order = slice_cmp (slice_cmp nat_cmp)

pub total : IsTotalOrder order
total = lists_total nat_list_cmp_total

-- names are the same as themselves
pub same-itself : (names : List (List ℕ)) → same_names names names ≡ true
same-itself [] = refl
same-itself (x ∷ []) = bytes_eq-itself x
same-itself (x ∷ y ∷ names) = rw (bytes_eq-itself x) (same-itself (y ∷ names))

-- names that differ in the first one are not the same
never : (names others : List (List ℕ)) → same_names ([] ∷ names) ((0 ∷ []) ∷ others) ≡ false
never [] [] = refl
never [] (y ∷ others) = refl
never (x ∷ names) [] = refl
never (x ∷ names) (y ∷ others) = never names others

-- names whose first one is the same
rest_same : (names others : List (List ℕ)) → same_names ([] ∷ names) ([] ∷ others) ≡ true → same_names names others ≡ true
rest_same [] [] h = refl
rest_same [] (y ∷ others) h = h
rest_same (x ∷ names) [] h = h
rest_same (x ∷ names) (y ∷ others) h = h

-- names that are the same
pub same-is : (names others : List (List ℕ)) → same_names names others ≡ true → names ≡ others
same-is [] [] e = refl
same-is [] (y ∷ others) e = cc
same-is (x ∷ names) [] e = cc
same-is (x ∷ names) (y ∷ others) e = at (bytes_eq x y) refl (same-is names others) where
  at : (b : Bool) → bytes_eq x y ≡ b → (same_names names others ≡ true → names ≡ others) → (x ∷ names) ≡ (y ∷ others)
  at true is more = λ i. same x y is i ∷ more (rest_same names others (rw is at e)) i
  at false is more = absurd (true≢false (sym (rw is at e) ∙ never names others))

both_equal : (a b : Ordering) → ordering_then a b ≡ Equal → (a ≡ Equal) × (b ≡ Equal)
both_equal Less b e = cc
both_equal Equal b e = (refl, e)
both_equal Greater b e = cc

-- names of which none goes before the other
pub order-is : (names others : List (List ℕ)) → order names others ≡ Equal → names ≡ others
order-is [] [] e = refl
order-is [] (y ∷ ys) e = cc
order-is (x ∷ xs) [] e = cc
order-is (x ∷ xs) (y ∷ ys) e =
    let parts = both_equal (slice_cmp nat_cmp x y) (order xs ys) e in
    λ i. exact_bytes x y parts.0 i ∷ order-is xs ys parts.1 i

order-itself : (names : List (List ℕ)) → order names names ≡ Equal
order-itself names = tied_itself total names

-- what code asks of the order is what the test of names answers
pub same-Equal : (names others : List (List ℕ)) → order names others ≡ Equal → same_names names others ≡ true
same-Equal names others e = ap (λ n. same_names n others) (order-is names others e) ∙ same-itself others

differs : (o : Ordering) → o ≡ Less ⊎ o ≡ Greater → o ≡ Equal → ⊥
differs o (inl less) equal = true≢false (sym (ap is_lt less) ∙ ap is_lt equal)
differs o (inr greater) equal = true≢false (sym (ap is_gt greater) ∙ ap is_gt equal)

pub same-other : (names others : List (List ℕ)) (o : Ordering) → order names others ≡ o → o ≡ Less ⊎ o ≡ Greater → same_names names others ≡ false
same-other names others o is apart = at (same_names names others) refl where
  at : (b : Bool) → same_names names others ≡ b → b ≡ false
  at false e = refl
  at true e = absurd (differs o apart (sym is ∙ ap (λ n. order n others) (same-is names others e) ∙ order-itself others))
