-- A walk over devices that looks for one that passes a test.
use Rattle.std.proofs.Common.{◌≡◌, ℕ, zero, suc, ◌+◌, Bool, false, ◌||◌, List, [], ◌∷◌, Some, drop, ap, ◌∙◌, arith}
use Rattle.std.specs.List.{list_any, slice_get}

-- one more element fails
pub fails-more : {X : Type 0} (test : X → Bool) (xs : List X) (i : ℕ) (x : X) → slice_get xs i ≡ Some x → test x ≡ false
    → list_any test (drop i xs) ≡ list_any test (drop (i + 1) xs)
fails-more test [] zero x at fails = cc
fails-more test [] (suc i) x at fails = cc
fails-more test (y ∷ ys) zero x at fails =
    let same : y ≡ x = cc in
    ap (λ b. b || list_any test ys) (ap test same ∙ fails)
fails-more test (y ∷ ys) (suc i) x at fails =
    let step : suc (i + 1) ≡ suc i + 1 = omega arith in
    fails-more test ys i x at fails ∙ ap (λ n. list_any test (drop n (y ∷ ys))) step
