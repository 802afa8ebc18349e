-- The listed paths can all be taken: none is malformed, and no two of them conflict.
use Rattle.std.proofs.Common.{◌≡◌, ◌++◌, true, [], refl}
use Rattle.matchit.proofs.OnLiterals.{matchit_on_literals}
use Rattle.rest_routes.specs.Endpoints.{empty_lists, routes, are_taken}

pub routes_are_taken : are_taken routes [] ≡ true
unfolding matchit_on_literals routes
routes_are_taken = refl

-- nor do those of lists that are always empty
pub empty_lists_are_taken : are_taken empty_lists [] ≡ true
unfolding matchit_on_literals empty_lists
empty_lists_are_taken = refl

pub all_are_taken : are_taken (empty_lists ++ routes) [] ≡ true
unfolding matchit_on_literals empty_lists routes
all_are_taken = refl
