-- A list that is changed item by item, as a loop does.
use Rattle.std.proofs.Common.{◌≡◌, ℕ, zero, suc, ◌+◌, ◌<◌, List, [], ◌∷◌, ◌++◌, length, map, take, drop, set, get_or, refl, sym, ◌∙◌, ap, arith}
use Rattle.std.proofs.lemmas.List.{get_or_default}

module _ {X : Type 0} (f : X → X) where
  pub read_next : (xs : List X) (i : ℕ) (d : X) → i < length xs → get_or (map f (take i xs) ++ drop i xs) i d ≡ get_or xs i d
  read_next [] i d lt = absurd (omega arith)
  read_next (x ∷ xs) zero d lt = refl
  read_next (x ∷ xs) (suc i) d lt = read_next xs i d (omega arith)

  set_suc : (xs : List X) (i : ℕ) (y : X) → i < length xs → y ≡ f (get_or xs i y) → set (map f (take i xs) ++ drop i xs) i y ≡ map f (take (suc i) xs) ++ drop (suc i) xs
  set_suc [] i y lt is = absurd (omega arith)
  set_suc (x ∷ xs) zero y lt is = ap (λ (z : X). z ∷ xs) is
  set_suc (x ∷ xs) (suc i) y lt is = ap (λ (l : List X). f x ∷ l) (set_suc xs i y (omega arith) is)

  pub set_next : (xs ys : List X) (i : ℕ) (y d : X) → i < length xs → ys ≡ map f (take i xs) ++ drop i xs → y ≡ f (get_or ys i d) → set ys i y ≡ map f (take (i + 1) xs) ++ drop (i + 1) xs
  set_next xs ys i y d lt same is =
      let read : get_or ys i d ≡ get_or xs i d = ap (λ (l : List X). get_or l i d) same ∙ read_next xs i d lt in
      let other : get_or xs i d ≡ get_or xs i y = get_or_default xs i d y lt in
      let next : suc i ≡ i + 1 = omega arith in
      ap (λ (l : List X). set l i y) same ∙ set_suc xs i y lt (is ∙ ap f (read ∙ other)) ∙ ap (λ (n : ℕ). map f (take n xs) ++ drop n xs) next
