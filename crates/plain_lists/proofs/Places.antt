use Rattle.std.proofs.Common.{◌≡◌, ℕ, zero, suc, ◌+◌, ◌<◌, Bool, true, false, cond, not, ◌||◌, Some, None, List, [], ◌∷◌, length, get_or, set, refl, sym, ◌∙◌, ap, arith}
use Rattle.std.proofs.Math.Numerals.{one-add}
use Rattle.std.specs.List.{find, list_any, position, position_from, position_or_len, insert, remove}
use Rattle.std.proofs.lemmas.Iterator.Adapters.{position_from-zero}
use Rattle.std.proofs.lemmas.List.Quantifiers.{position-Some}
use Rattle.plain_lists.specs.Edits.{changed_first, dropped, inserted, replaced}
use Rattle.plain_lists.proofs.Searches.{any-none, none-find, find-any}
use Rattle.plain_lists.proofs.EditLemmas.{dropped-none}

-- what code does at the place that `position` gives

-- the place is of the first element that passes
record IsFirstPlace {X : Type 0} (p : X → Bool) (xs : List X) (i : ℕ) (d : X) : Type 0 where
  within : i < length xs
  passes : p (get_or xs i d) ≡ true
  below : (k : ℕ) → k < i → p (get_or xs k d) ≡ false

first_place : {X : Type 0} (p : X → Bool) (xs : List X) (i : ℕ) (d : X) → position p xs ≡ Some i → IsFirstPlace p xs i d
first_place p xs i d e = let found = position-Some p xs i d e in record { within = found.0; passes = found.1; below = found.2 }

further : {X : Type 0} {p : X → Bool} {y : X} {ys : List X} {i : ℕ} {d : X} → IsFirstPlace p (y ∷ ys) (suc i) d → IsFirstPlace p ys i d
further h = record { within = omega (arith, h.within); passes = h.passes; below = λ k le. h.below (suc k) (omega arith) }

found_at : {X : Type 0} (p : X → Bool) (xs : List X) (i : ℕ) (d : X) → IsFirstPlace p xs i d → find p xs ≡ Some (get_or xs i d)
found_at p [] i d h = absurd (omega (arith, h.within))
found_at p (y ∷ ys) zero d h = ap (λ b. cond b (Some y) (find p ys)) h.passes
found_at p (y ∷ ys) (suc i) d h = ap (λ b. cond b (Some y) (find p ys)) (h.below 0 (omega arith)) ∙ found_at p ys i d (further h)

changed_at_place : {X : Type 0} (p : X → Bool) (f : X → X) (xs : List X) (i : ℕ) (d : X)
    → IsFirstPlace p xs i d → set xs i (f (get_or xs i d)) ≡ changed_first p f xs
changed_at_place p f [] i d h = absurd (omega (arith, h.within))
changed_at_place p f (y ∷ ys) zero d h = sym (ap (λ b. cond b (f y ∷ ys) (y ∷ changed_first p f ys)) h.passes)
changed_at_place p f (y ∷ ys) (suc i) d h =
    ap (λ zs. y ∷ zs) (changed_at_place p f ys i d (further h))
    ∙ sym (ap (λ b. cond b (f y ∷ ys) (y ∷ changed_first p f ys)) (h.below 0 (omega arith)))

dropped_at_place : {X : Type 0} (p : X → Bool) (xs : List X) (i : ℕ) (d : X) → IsFirstPlace p xs i d → remove xs i ≡ dropped p xs
dropped_at_place p [] i d h = absurd (omega (arith, h.within))
dropped_at_place p (y ∷ ys) zero d h = sym (ap (λ b. cond b ys (y ∷ dropped p ys)) h.passes)
dropped_at_place p (y ∷ ys) (suc i) d h =
    ap (λ zs. y ∷ zs) (dropped_at_place p ys i d (further h)) ∙ sym (ap (λ b. cond b ys (y ∷ dropped p ys)) (h.below 0 (omega arith)))

pub find-at : {X : Type 0} (p : X → Bool) (xs : List X) (i : ℕ) (d : X) → Some i ≡ position p xs → find p xs ≡ Some (get_or xs i d)
find-at p xs i d e = found_at p xs i d (first_place p xs i d (sym e))

pub changed-at : {X : Type 0} (p : X → Bool) (f : X → X) (xs : List X) (i : ℕ) (d : X)
    → Some i ≡ position p xs → set xs i (f (get_or xs i d)) ≡ changed_first p f xs
changed-at p f xs i d e = changed_at_place p f xs i d (first_place p xs i d (sym e))

pub dropped-at : {X : Type 0} (p : X → Bool) (xs : List X) (i : ℕ) (d : X) → Some i ≡ position p xs → remove xs i ≡ dropped p xs
dropped-at p xs i d e = dropped_at_place p xs i d (first_place p xs i d (sym e))

pub replaced-at : {X : Type 0} (p before : X → Bool) (x : X) (xs : List X) (i : ℕ)
    → Some i ≡ position p xs → set xs i x ≡ replaced p before x xs
replaced-at p before x xs i e =
    changed-at p (λ _. x) xs i x e
    ∙ sym (ap (λ b. cond b (changed_first p (λ _. x) xs) (inserted before x xs)) (find-any p xs (get_or xs i x) (find-at p xs i x e)))

none_from : {X : Type 0} (p : X → Bool) (xs : List X) (i : ℕ) → position_from p i xs ≡ None → list_any p xs ≡ false
none_from p [] i e = refl
none_from p (y ∷ ys) i e = at (p y) e (none_from p ys (i + 1)) where
  at : (b : Bool) → cond b (Some i) (position_from p (i + 1) ys) ≡ None
      → (position_from p (i + 1) ys ≡ None → list_any p ys ≡ false) → (b || list_any p ys) ≡ false
  at true h more = cc
  at false h more = more h

-- no place, no element
pub any-position : {X : Type 0} (p : X → Bool) (xs : List X) → None ≡ position p xs → list_any p xs ≡ false
any-position p xs e = none_from p xs 0 (sym (position_from-zero p xs) ∙ sym e)

pub none-position : {X : Type 0} (p : X → Bool) (xs : List X) → None ≡ position p xs → find p xs ≡ None
none-position p xs e = none-find p xs (any-none p xs (any-position p xs e))

pub replaced-new : {X : Type 0} (p before : X → Bool) (x : X) (xs : List X)
    → None ≡ position p xs → inserted before x xs ≡ replaced p before x xs
replaced-new p before x xs e = sym (ap (λ b. cond b (changed_first p (λ _. x) xs) (inserted before x xs)) (any-position p xs e))

pub dropped-nothing : {X : Type 0} (p : X → Bool) (xs : List X) → None ≡ position p xs → xs ≡ dropped p xs
dropped-nothing p xs e = sym (dropped-none p xs (any-position p xs e))

-- a put at the first place that x goes before, or at the end
pub inserted-at : {X : Type 0} (before : X → Bool) (x : X) (xs : List X) → insert xs (position_or_len before xs) x ≡ inserted before x xs
inserted-at before x [] = refl
inserted-at before x (y ∷ ys) = at (before y) (inserted-at before x ys) where
  at : (b : Bool) → insert ys (position_or_len before ys) x ≡ inserted before x ys
      → insert (y ∷ ys) (cond (not b) (1 + position_or_len before ys) 0) x ≡ cond b (x ∷ y ∷ ys) (y ∷ inserted before x ys)
  at true e = refl
  at false e = rw one-add (ap (λ zs. y ∷ zs) e)
