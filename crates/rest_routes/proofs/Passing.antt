-- Pairs of a query of which none is passed over.
use Rattle.std.proofs.Common.{◌≡◌, ℕ, List, [], ◌∷◌, false, refl, ap}
use Rattle.rest_routes.specs.Queries.{pairs_passing}

pub none_passed : (pairs : List (List ℕ × List ℕ)) → pairs_passing false pairs ≡ pairs
none_passed [] = refl
none_passed (pair ∷ pairs) = ap (λ more. pair ∷ more) (none_passed pairs)
