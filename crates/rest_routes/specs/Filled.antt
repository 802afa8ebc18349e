-- The pattern of a listed path with the names of a path in place of its parameters.
use Rattle.std.specs.Prelude.{◌≡◌, ℕ, ◌==◌, List, [], ◌∷◌, ◌++◌, Some, if◌then◌else◌}
use Rattle.matchit.specs.Level.{IsText}
use Rattle.matchit.specs.Router.{RouteOf}
use Rattle.matchit.specs.Rows.{param_token}
use Rattle.matchit.specs.Seek.{first}
use Rattle.size_values.specs.declared.kinds.ObjectKind.TheVariants as kind
use Rattle.rest_routes.specs.Paths.{name_of, pool_of, instance_of}
use Rattle.rest_routes.specs.Endpoints.{rows}
use Rattle.rest_routes.specs.declared.endpoints.Line.{Line}
use Rattle.rest_routes.specs.declared.endpoints.Endpoint.{Endpoint}
use Rattle.rest_routes.specs.declared.endpoints.Endpoint.TheVariants as endpoint

-- the pattern with each of these parts in place of a parameter, one after the other
abbrev pub filled : List ℕ → List (List ℕ) → List ℕ
filled [] parts = []
filled (token ∷ more) [] = token ∷ filled more []
filled (token ∷ more) (part ∷ parts) =
    if token == param_token then part ++ filled more parts else token ∷ filled more (part ∷ parts)

-- the names that requests at an endpoint read off its path
abbrev pub names_in : Endpoint → List ℕ → List (List ℕ)
names_in (endpoint.List kind.Volume) path = pool_of kind.Volume path ∷ []
names_in (endpoint.List kind.Snapshot) path = instance_of kind.Snapshot path ∷ []
names_in (endpoint.One kind.Volume) path = pool_of kind.Volume path ∷ name_of kind.Volume path ∷ []
names_in (endpoint.One kind.Snapshot) path = instance_of kind.Snapshot path ∷ name_of kind.Snapshot path ∷ []
names_in (endpoint.One kind) path = name_of kind path ∷ []
names_in endpoint.Usage path = name_of kind.Project path ∷ []
names_in endpoint.State path = name_of kind.Instance path ∷ []
names_in endpoint.Wait path = name_of kind.Operation path ∷ []
names_in other path = []

-- each listed path is the pattern that the router finds for it, with the names read off it in place of the parameters
abbrev pub NamesFill : Type 0
NamesFill =
    (path : List ℕ) (route : RouteOf Line) → IsText path → first rows path ≡ Some route
    → path ≡ filled route.pattern (names_in route.value.endpoint path)
