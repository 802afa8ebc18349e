-- Whether a row of a project passes a test, asked of the rows of that project alone.
use Rattle.std.proofs.Common.{◌≡◌, Bool, true, false, cond, ◌||◌, List, [], ◌∷◌, filter, refl, sym, ap, ◌∙◌}
use Rattle.std.specs.List.{list_any}

-- a test that no other element passes
pub any-own : {X : Type 0} (test p : X → Bool) (xs : List X)
    → ((x : X) → p x ≡ false → test x ≡ false) → list_any test (filter p xs) ≡ list_any test xs
any-own test p [] other = refl
any-own {X} test p (x ∷ xs) other = at (p x) refl (any-own test p xs other) where
  at : (b : Bool) → p x ≡ b → list_any test (filter p xs) ≡ list_any test xs
      → list_any test (cond b (x ∷ filter p xs) (filter p xs)) ≡ (test x || list_any test xs)
  at true is more = ap (λ c. test x || c) more
  at false is more = more ∙ sym (ap (λ b. b || list_any test xs) (other x is))
