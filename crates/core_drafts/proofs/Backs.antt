-- An edit of a list at one place, and the edit that takes it back.
use Rattle.std.proofs.Common.{◌≡◌, ℕ, zero, suc, ◌+◌, ◌-◌, ◌<◌, ◌≤◌, Bool, List, [], ◌∷◌, ◌++◌, ◌∙◌, length, length-append, take, get_or, set, refl, ap, arith}
use Rattle.std.specs.List.{insert, remove}
use Rattle.operations.specs.OperationTable.{OperationTable, entered}
use Rattle.core_drafts.specs.Background.{before_claim}
use Rattle.row_machine.specs.machine.Task.{Task}
use Rattle.std.proofs.Math.Seq.{take-append_seam}

pub set-back : {X : Type 0} (xs : List X) (i : ℕ) (y d : X) → set (set xs i y) i (get_or xs i d) ≡ xs
set-back [] zero y d = refl
set-back [] (suc i) y d = refl
set-back (x ∷ xs) zero y d = refl
set-back (x ∷ xs) (suc i) y d = ap (λ zs. x ∷ zs) (set-back xs i y d)

pub insert-back : {X : Type 0} (xs : List X) (i : ℕ) (y : X) → i ≤ length xs → remove (insert xs i y) i ≡ xs
insert-back [] zero y h = refl
insert-back [] (suc i) y h = absurd (omega (arith, h))
insert-back (x ∷ xs) zero y h = refl
insert-back (x ∷ xs) (suc i) y h = ap (λ zs. x ∷ zs) (insert-back xs i y (omega (arith, h)))

pub remove-back : {X : Type 0} (xs : List X) (i : ℕ) (d : X) → i < length xs → insert (remove xs i) i (get_or xs i d) ≡ xs
remove-back [] i d h = absurd (omega (arith, h))
remove-back (x ∷ xs) zero d h = refl
remove-back (x ∷ xs) (suc i) d h = ap (λ zs. x ∷ zs) (remove-back xs i d (omega (arith, h)))

-- without the last of the longer list
push-back : {X : Type 0} (xs : List X) (x : X) → take (length (xs ++ x ∷ []) - 1) (xs ++ x ∷ []) ≡ xs
push-back xs x =
    let shorter : length (xs ++ x ∷ []) - 1 ≡ length xs = omega (arith, length-append xs (x ∷ [])) in
    ap (λ n. take n (xs ++ x ∷ [])) shorter ∙ take-append_seam xs (x ∷ [])

-- an operation that is entered and taken back
pub claim-back : (may_cancel : Bool) (task : Task) (moment : ℕ) (k : OperationTable Task) → before_claim (entered may_cancel task moment k) ≡ k
claim-back may_cancel task moment k = λ i. record { live = live i; ended = k.ended; next = next i } where
  live : (before_claim (entered may_cancel task moment k)).live ≡ k.live
  live = push-back k.live _

  next : k.next + 1 - 1 ≡ k.next
  next = omega arith
