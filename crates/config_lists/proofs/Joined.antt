-- The order of a text and one that is a front with a rest behind it.
use Rattle.std.proofs.Common.{◌≡◌, ℕ, false, ◌&&◌, List, [], ◌∷◌, ◌++◌, nat_eq, refl, sym, ap, ◌∙◌}
use Rattle.std.specs.declared.cmp.Ordering.{Ordering}
use Rattle.std.specs.declared.cmp.Ordering.TheVariants.{Less, Equal, Greater}
use Rattle.std.specs.List.{starts_with}
use Rattle.std.specs.Ordering.{nat_cmp, ordering_then}
use Rattle.std.proofs.lemmas.Bool.{eq-eqb}
use Rattle.std.proofs.lemmas.Cmp.{nat_cmp_total, tied_itself}
use Rattle.std.proofs.lemmas.Map.Lookups.{exact_unsigned}
use Rattle.config_lists.proofs.Keys.{order}

-- behind the same front the rests decide
pub order-behind : (front a b : List ℕ) → order (front ++ a) (front ++ b) ≡ order a b
order-behind [] a b = refl
order-behind (x ∷ front) a b = ap (λ o. ordering_then o (order (front ++ a) (front ++ b))) (tied_itself nat_cmp_total x) ∙ order-behind front a b

-- where a text does not begin with the front, the front decides
pub order-front : (text front rest : List ℕ) → starts_with nat_eq text front ≡ false → order text (front ++ rest) ≡ order text front
order-front [] [] rest is = cc
order-front [] (y ∷ front) rest is = refl
order-front (x ∷ text) [] rest is = cc
order-front (x ∷ text) (y ∷ front) rest is = at (nat_cmp x y) refl (order-front text front rest) where
  at : (o : Ordering) → nat_cmp x y ≡ o → (starts_with nat_eq text front ≡ false → order text (front ++ rest) ≡ order text front)
      → ordering_then o (order text (front ++ rest)) ≡ ordering_then o (order text front)
  at Less met later = refl
  at Equal met later = later (ap (λ b. b && starts_with nat_eq text front) (sym (eq-eqb y x (sym (exact_unsigned x y met)))) ∙ is)
  at Greater met later = refl
