-- Where a new element goes, as code finds it; operations in the order of their numbers, one by one from the last one; and
-- statuses one by one.
use Rattle.std.proofs.Common.{◌≡◌, ℕ, zero, suc, ◌+◌, ◌<◌, Bool, true, false, cond, ◌||◌, Option, Some, None, List, [], ◌∷◌, ◌++◌, length, take, drop, get_or, nat_lt, unwrap_or, refl, sym, ap, ◌∙◌, drop-cons, arith}
use Rattle.std.specs.List.{filter_map, list_any, position, insert}
use Rattle.std.proofs.lemmas.List.Quantifiers.{position-Some}
use Rattle.plain_lists.proofs.Places.{any-position}
use Rattle.std.specs.Option.{option_to_list}
use Rattle.row_readings.proofs.Totals.{read-next}
use Rattle.plain_lists.specs.Edits.{inserted}
use Rattle.operations.specs.declared.operation.Operation.{Operation}
use Rattle.operations.specs.OperationTable.{by_number}
use Rattle.row_machine.specs.machine.Task.{Task}

-- put after all, where it goes before none
inserted-after : {X : Type 0} (before : X → Bool) (x : X) (xs : List X) → list_any before xs ≡ false → insert xs (length xs) x ≡ inserted before x xs
inserted-after before x [] e = refl
inserted-after before x (y ∷ ys) e = at (before y) e (inserted-after before x ys) where
  at : (b : Bool) → (b || list_any before ys) ≡ false
      → (list_any before ys ≡ false → insert ys (length ys) x ≡ inserted before x ys)
      → insert (y ∷ ys) (length (y ∷ ys)) x ≡ cond b (x ∷ y ∷ ys) (y ∷ inserted before x ys)
  at true e more = cc
  at false e more = ap (λ zs. y ∷ zs) (more e)

-- put at the first place of those that it goes before
inserted-before : {X : Type 0} (before : X → Bool) (x : X) (xs : List X) (i : ℕ) (d : X) → i < length xs
    → before (get_or xs i d) ≡ true → ((k : ℕ) → k < i → before (get_or xs k d) ≡ false) → insert xs i x ≡ inserted before x xs
inserted-before before x [] i d within passes below = absurd (omega (arith, within))
inserted-before before x (y ∷ ys) zero d within passes below = sym (ap (λ b. cond b (x ∷ y ∷ ys) (y ∷ inserted before x ys)) passes)
inserted-before before x (y ∷ ys) (suc i) d within passes below =
    ap (λ zs. y ∷ zs) (inserted-before before x ys i d (omega (arith, within)) passes (λ k le. below (suc k) (omega (arith, le))))
    ∙ sym (ap (λ b. cond b (x ∷ y ∷ ys) (y ∷ inserted before x ys)) (below 0 (omega arith)))

-- put where code finds its place
pub inserted-gap : {X : Type 0} (before : X → Bool) (x : X) (xs : List X) → insert xs (unwrap_or (position before xs) (length xs)) x ≡ inserted before x xs
inserted-gap before x xs = at (position before xs) refl where
  at : (o : Option ℕ) → position before xs ≡ o → insert xs (unwrap_or o (length xs)) x ≡ inserted before x xs
  at (Some i) e = let found = position-Some before xs i x e in inserted-before before x xs i x found.0 found.1 found.2
  at None e = inserted-after before x xs (any-position before xs (sym e))

-- an operation is put at its place among those after
pub numbered-more : (os : List (Operation Task)) (i j : ℕ) (o p : Operation Task) (all all' : List (Operation Task))
    → i < length os → j ≡ i + 1 → o ≡ get_or os i o → p ≡ o
    → all' ≡ inserted (λ other. nat_lt p.number other.number) p all → all ≡ by_number (drop j os) → all' ≡ by_number (drop i os)
numbered-more os i j o p all all' within next is same more h =
    let after : j ≡ suc i = omega arith in
    more
    ∙ ap (λ (q : Operation Task). inserted (λ other. nat_lt q.number other.number) q all) same
    ∙ ap (λ others. inserted (λ other. nat_lt o.number other.number) o others) (h ∙ ap (λ k. by_number (drop k os)) after)
    ∙ ap by_number (sym (drop-cons os i o within ∙ ap (λ (x : Operation Task). x ∷ drop (suc i) os) (sym is)))

-- what stands within a list does not depend on what is taken after it
same-at : {X : Type 0} (xs : List X) (i : ℕ) (d e : X) → i < length xs → get_or xs i d ≡ get_or xs i e
same-at [] i d e within = absurd (omega (arith, within))
same-at (x ∷ xs) zero d e within = refl
same-at (x ∷ xs) (suc i) d e within = same-at xs i d e (omega (arith, within))

-- what is read of one more
pub read-more : {X Y : Type 0} (f : X → Option Y) (xs : List X) (i : ℕ) (d : X) (ys ys' : List Y) → i < length xs
    → ys' ≡ ys ++ option_to_list (f (get_or xs i d)) → ys ≡ filter_map f (take i xs) → ys' ≡ filter_map f (take (i + 1) xs)
read-more f xs i d ys ys' within more h =
    more ∙ ap (λ zs. zs ++ option_to_list (f (get_or xs i d))) h ∙ read-next f [] xs i (get_or xs i d) within (same-at xs i d (get_or xs i d) within)
