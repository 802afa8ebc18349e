use Rattle.std.proofs.Common.{◌≡◌, Bool, false, None, List, [], ◌∷◌, ◌++◌, refl, sym, ◌∙◌, ap}
use Rattle.std.specs.List.{position}
use Rattle.plain_lists.specs.Edits.{inserted, replaced}
use Rattle.plain_lists.proofs.Places.{replaced-new}

inserted-end : {X : Type 0} (x : X) (xs : List X) → inserted (λ _. false) x xs ≡ xs ++ x ∷ []
inserted-end x [] = refl
inserted-end x (y ∷ ys) = ap (λ zs. y ∷ zs) (inserted-end x ys)

-- where there is no order, what is new stands at the end
pub replaced-end : {X : Type 0} (p : X → Bool) (x : X) (xs : List X) → None ≡ position p xs → xs ++ x ∷ [] ≡ replaced p (λ _. false) x xs
replaced-end p x xs e = sym (inserted-end x xs) ∙ replaced-new p (λ _. false) x xs e
