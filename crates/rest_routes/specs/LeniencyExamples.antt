-- What each dialect reads, by examples: each part that the client's passes over, and what is near to it and stays.
use Rattle.std.specs.Prelude.{◌≡◌, ℕ, List, [], ◌∷◌, true, false, map, codes}
use Rattle.serde_json.specs.Data.{Data, boolean, string}
use Rattle.size_values.specs.declared.kinds.ObjectKind.TheVariants as kind
use Rattle.rest_json.specs.Objects.{object_of}
use Rattle.rest_routes.specs.Leniencies.{pairs_in, body_in}
use Rattle.rest_routes.specs.Queries.{is_empty_filter}
use Rattle.rest_json.specs.declared.terms.Dialect.TheVariants as dialect
use Rattle.rest_routes.specs.declared.endpoints.Endpoint.{Endpoint}
use Rattle.rest_routes.specs.declared.endpoints.Endpoint.TheVariants as endpoint
use Rattle.rest_routes.specs.declared.endpoints.Verb.{Verb}
use Rattle.rest_routes.specs.declared.endpoints.Verb.TheVariants as verb

-- a body that is sent to an endpoint at a path, and the same as the plain dialect has it
pub record BodyExample : Type 0 where
  pub endpoint : Endpoint
  pub verb : Verb
  pub path : List ℕ
  pub sent : Data
  pub plain : Data

abbrev example : Endpoint → Verb → List ℕ → Data → Data → BodyExample
example endpoint verb path sent plain =
    record { endpoint = endpoint; verb = verb; path = path; sent = sent; plain = plain }

-- one that is read as it is
abbrev stays : Endpoint → Verb → List ℕ → Data → BodyExample
stays endpoint verb path sent = example endpoint verb path sent sent

-- an object with one text, and one with a source of these texts
abbrev text_at : List ℕ → List ℕ → Data
text_at key text = object_of ((key, string text) ∷ [])

abbrev source_at : List ℕ → List ℕ → Data
source_at key text = object_of ((codes "source", text_at key text) ∷ [])

abbrev pub bodies : List BodyExample
bodies =
    example (endpoint.List kind.Network) verb.Post (codes "/1.0/networks")
    (object_of ((codes "name", string (codes "n0")) ∷ (codes "type", string []) ∷ [])) (text_at (codes "name") (codes "n0"))
    ∷ stays (endpoint.List kind.Network) verb.Post (codes "/1.0/networks") (text_at (codes "type") (codes " "))
    ∷ stays (endpoint.List kind.Profile) verb.Post (codes "/1.0/profiles") (text_at (codes "type") [])
    ∷ example (endpoint.List kind.Volume) verb.Post (codes "/1.0/storage-pools/p0/volumes/custom")
    (source_at (codes "type") []) (object_of [])
    ∷ stays (endpoint.List kind.Volume) verb.Post (codes "/1.0/storage-pools/p0/volumes/custom")
    (source_at (codes "type") (codes " "))
    ∷ stays (endpoint.List kind.Volume) verb.Post (codes "/1.0/storage-pools/p0/volumes/custom") (source_at (codes "name") [])
    ∷ stays (endpoint.List kind.Instance) verb.Post (codes "/1.0/instances") (source_at (codes "type") [])
    ∷ example (endpoint.List kind.Instance) verb.Post (codes "/1.0/instances")
    (object_of ((codes "start", boolean true) ∷ [])) (object_of [])
    ∷ stays (endpoint.List kind.Instance) verb.Post (codes "/1.0/instances") (object_of ((codes "start", boolean false) ∷ []))
    ∷ stays (endpoint.List kind.Instance) verb.Post (codes "/1.0/instances") (text_at (codes "start") (codes "true"))
    ∷ example (endpoint.One kind.Instance) verb.Post (codes "/1.0/instances/c1") (text_at (codes "project") []) (object_of [])
    ∷ stays (endpoint.One kind.Instance) verb.Post (codes "/1.0/instances/c1") (text_at (codes "project") (codes "x"))
    ∷ example (endpoint.One kind.Instance) verb.Put (codes "/1.0/instances/c1") (text_at (codes "restore") (codes "c1/s0"))
    (text_at (codes "restore") (codes "s0"))
    ∷ stays (endpoint.One kind.Instance) verb.Put (codes "/1.0/instances/c1") (text_at (codes "restore") (codes "c2/s0"))
    ∷ stays (endpoint.One kind.Instance) verb.Put (codes "/1.0/instances/c1") (text_at (codes "restore") (codes "s0"))
    ∷ stays (endpoint.One kind.Instance) verb.Patch (codes "/1.0/instances/c1") (text_at (codes "restore") (codes "c1/s0"))
    ∷ []

-- each is read so in the client's dialect, and as it is in the plain one
abbrev pub BodiesAreRead : Type 0
BodiesAreRead =
    (map (λ e. body_in dialect.Client e.endpoint e.verb e.path e.sent) bodies ≡ map (λ e. e.plain) bodies)
    × (map (λ e. body_in dialect.Plain e.endpoint e.verb e.path e.sent) bodies ≡ map (λ e. e.sent) bodies)

-- an empty filter as it stands in a query
abbrev empty : List ℕ × List ℕ
empty = (codes "filter", [])

-- In the client's dialect a filter that is empty once it is decoded is passed over where a filter is taken, and there
-- alone; any other pair stays.
pub record QueriesAreRead : Type 0 where
  pub instances : (pair : List ℕ × List ℕ) → is_empty_filter pair ≡ true
      → pairs_in dialect.Client (endpoint.List kind.Instance) verb.Get (pair ∷ []) ≡ []
  pub volumes : (pair : List ℕ × List ℕ) → is_empty_filter pair ≡ true
      → pairs_in dialect.Client (endpoint.List kind.Volume) verb.Get (pair ∷ []) ≡ []
  pub filtered : (pair : List ℕ × List ℕ) → is_empty_filter pair ≡ false
      → pairs_in dialect.Client (endpoint.List kind.Instance) verb.Get (pair ∷ []) ≡ pair ∷ []
  pub made : pairs_in dialect.Client (endpoint.List kind.Instance) verb.Post (empty ∷ []) ≡ empty ∷ []
  pub one : pairs_in dialect.Client (endpoint.One kind.Instance) verb.Get (empty ∷ []) ≡ empty ∷ []
  pub profiles : (pair : List ℕ × List ℕ) → is_empty_filter pair ≡ true
      → pairs_in dialect.Client (endpoint.List kind.Profile) verb.Get (pair ∷ []) ≡ []
  pub operations : pairs_in dialect.Client (endpoint.List kind.Operation) verb.Get (empty ∷ []) ≡ empty ∷ []
  pub plain : pairs_in dialect.Plain (endpoint.List kind.Instance) verb.Get (empty ∷ []) ≡ empty ∷ []
