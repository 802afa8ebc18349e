-- Which lists take a filter, and what the query of such a list says.
use Rattle.std.specs.Prelude.{ℕ, Bool, true, false, List, Option}
use Rattle.std.specs.Result.{result_ok}
use Rattle.form_urlencoded.specs.Form.{raw_pairs}
use Rattle.size_values.specs.declared.kinds.ObjectKind.{ObjectKind}
use Rattle.size_values.specs.declared.kinds.ObjectKind.TheVariants as kind
use Rattle.rest_json.specs.declared.terms.Dialect.{Dialect}
use Rattle.rest_json.specs.declared.terms.Dialect.TheVariants as dialect
use Rattle.rest_routes.specs.Paths.{query_of}
use Rattle.rest_routes.specs.Queries.{pairs_passing, query_of as query_said}
use Rattle.rest_routes.specs.declared.endpoints.Endpoint.{Endpoint}
use Rattle.rest_routes.specs.declared.endpoints.Endpoint.TheVariants as endpoint
use Rattle.rest_routes.specs.declared.endpoints.Verb.{Verb}
use Rattle.rest_routes.specs.declared.endpoints.Verb.TheVariants as verb
use Rattle.rest_routes.specs.declared.query.Query.{Query}

-- objects of each kind but operations are chosen by a filter
abbrev pub can_be_filtered : ObjectKind → Bool
can_be_filtered kind.Operation = false
can_be_filtered other = true

-- a filter is taken where such objects are listed
abbrev pub takes_filter : Endpoint → Verb → Bool
takes_filter (endpoint.List kind) verb.Get = can_be_filtered kind
takes_filter other verb = false

-- empty filters are passed over in the client's dialect: the command `incus` sends one with each list
abbrev pub passes_empty : Dialect → Bool
passes_empty dialect.Plain = false
passes_empty dialect.Client = true

-- what the query of a target says where a filter is taken, if each of its pairs is good
unfoldable pub list_query : Dialect → List ℕ → Option Query
list_query dialect target =
    result_ok (query_said true (pairs_passing (passes_empty dialect) (raw_pairs (query_of target))))
