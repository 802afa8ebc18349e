-- What the client's dialect reads otherwise than the plain one. The command `incus` sends some fields without a value
-- where they mean nothing, names a snapshot behind its instance, and starts a new instance by a request of its own.
-- Such a request is read as the plain request without these parts, so that the plain rules are the only ones.
use Rattle.std.specs.Prelude.{ℕ, List, Option, option_map, codes}
use Rattle.serde_json.specs.Data.{Data}
use Rattle.size_values.specs.declared.kinds.ObjectKind.TheVariants as kind
use Rattle.rest_bodies.specs.Without.{with_own_snapshot, without_empty, without_start, without_untyped_source}
use Rattle.rest_json.specs.declared.terms.Dialect.{Dialect}
use Rattle.rest_json.specs.declared.terms.Dialect.TheVariants as dialect
use Rattle.rest_routes.specs.Filters.{takes_filter}
use Rattle.rest_routes.specs.Paths.{name_of}
use Rattle.rest_routes.specs.Queries.{pairs_passing}
use Rattle.rest_routes.specs.declared.endpoints.Endpoint.{Endpoint}
use Rattle.rest_routes.specs.declared.endpoints.Endpoint.TheVariants as endpoint
use Rattle.rest_routes.specs.declared.endpoints.Verb.{Verb}
use Rattle.rest_routes.specs.declared.endpoints.Verb.TheVariants as verb

-- What a request asks by its form: what stands at its path, its method, the path, the pairs of its query, the object in
-- its body, if that spells one, and the entity tag that its object has to have.
pub record Asked : Type 0 where
  pub endpoint : Endpoint
  pub verb : Verb
  pub path : List ℕ
  pub pairs : List (List ℕ × List ℕ)
  pub body : Option Data
  pub expects : Option (List ℕ)

-- the body of a request to an endpoint
abbrev pub plain_body : Endpoint → Verb → List ℕ → Data → Data
-- `POST /1.0/networks`: an empty `type`
plain_body (endpoint.List kind.Network) verb path body = without_empty (codes "type") body
-- `POST /1.0/storage-pools/POOL/volumes`: a `source` whose `type` is empty
plain_body (endpoint.List kind.Volume) verb path body = without_untyped_source body
-- `POST /1.0/instances`: a true `start`
plain_body (endpoint.List kind.Instance) verb path body = without_start body
-- `POST /1.0/instances/NAME`: an empty `project`
plain_body (endpoint.One kind.Instance) verb.Post path body = without_empty (codes "project") body
-- `PUT /1.0/instances/NAME`: a `restore` of `NAME/SNAPSHOT` is one of `SNAPSHOT`
plain_body (endpoint.One kind.Instance) verb.Put path body = with_own_snapshot (name_of kind.Instance path) body
plain_body other verb path body = body

-- the pairs of a query in a dialect: empty filters are passed over where a filter is taken
abbrev pub pairs_in : Dialect → Endpoint → Verb → List (List ℕ × List ℕ) → List (List ℕ × List ℕ)
pairs_in dialect.Plain endpoint verb pairs = pairs
pairs_in dialect.Client endpoint verb pairs = pairs_passing (takes_filter endpoint verb) pairs

-- the body of a request in a dialect
abbrev pub body_in : Dialect → Endpoint → Verb → List ℕ → Data → Data
body_in dialect.Plain endpoint verb path body = body
body_in dialect.Client endpoint verb path body = plain_body endpoint verb path body

-- a request as the plain dialect has it
abbrev pub as_plain : Dialect → Asked → Asked
as_plain dialect asked = record asked {
  pairs = pairs_in dialect asked.endpoint asked.verb asked.pairs;
  body = option_map (body_in dialect asked.endpoint asked.verb asked.path) asked.body;
}
