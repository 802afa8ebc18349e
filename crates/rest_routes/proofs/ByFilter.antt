-- A list that takes a filter is asked for by its query.
use Rattle.std.proofs.Common.{◌≡◌, ℕ, true, List, Some, Result, Ok, Err, ap, sym, ◌∙◌, option_map}
use Rattle.std.specs.Result.{result_ok}
use Rattle.form_urlencoded.specs.Form.{raw_pairs}
use Rattle.http_heads.specs.declared.request.Request.{Request}
use Rattle.records.specs.declared.refusals.Refusal.{Refusal}
use Rattle.records.specs.declared.commands.What.TheVariants as what
use Rattle.rest_bodies.specs.Members.{object_in}
use Rattle.rest_json.specs.declared.terms.Dialect.{Dialect}
use Rattle.rest_json.specs.declared.terms.Dialect.TheVariants as dialect
use Rattle.rest_json.specs.declared.terms.Terms.{Terms}
use Rattle.rest_routes.proofs.InPlain.{asks}
use Rattle.rest_routes.proofs.Passing.{none_passed}
use Rattle.rest_routes.specs.Answers.{followed, mapped}
use Rattle.rest_routes.specs.Commands.{asked_at, expected_in, plain_command, told, what_at}
use Rattle.rest_routes.specs.Filters.{can_be_filtered, list_query, passes_empty}
use Rattle.rest_routes.specs.Leniencies.{as_plain, body_in, pairs_in}
use Rattle.rest_routes.specs.Paths.{path_of, query_of}
use Rattle.rest_routes.specs.Queries.{asks_objects, pairs_passing, project_of, query_of as query_said}
use Rattle.rest_routes.specs.Routed.{ListsAreAskedByTheirQuery}
use Rattle.rest_routes.specs.Targets.{objects_of}
use Rattle.rest_routes.specs.declared.endpoints.Endpoint.TheVariants as endpoint
use Rattle.rest_routes.specs.declared.endpoints.Line.{Line}
use Rattle.rest_routes.specs.declared.endpoints.Verb.TheVariants as verb
use Rattle.rest_routes.specs.declared.query.Query.{Query}
use Rattle.size_values.specs.declared.kinds.ObjectKind.{ObjectKind}

good : (read : Result Query Refusal) (query : Query) → result_ok read ≡ Some query → read ≡ Ok query
good (Ok read) query is = cc
good (Err refusal) query is = cc

-- in each dialect the pairs of such a list are those of its query
same_pairs : (d : Dialect) (kind : ObjectKind) (pairs : List (List ℕ × List ℕ)) → can_be_filtered kind ≡ true
    → pairs_passing (passes_empty d) pairs ≡ pairs_in d (endpoint.List kind) verb.Get pairs
same_pairs dialect.Plain kind pairs can = none_passed pairs
same_pairs dialect.Client kind pairs can = ap (λ taken. pairs_passing taken pairs) (sym can)

-- where its query is good
at_list : (request : Request) (line : Line) (kind : ObjectKind) (terms : Terms) (query : Query) → line.endpoint ≡ endpoint.List kind
    → query_said (can_be_filtered kind) (pairs_in terms.dialect (endpoint.List kind) verb.Get (raw_pairs (query_of request.target))) ≡ Ok query
    → told (plain_command (as_plain terms.dialect (asked_at line verb.Get request)) terms.boot)
    ≡ Ok (record {
      project = project_of query;
      what = what.List (objects_of kind (path_of request.target)) (asks_objects query);
      expects = expected_in request.if_match;
    })
unfolding plain_command
at_list request line kind terms query is said =
    ap (λ endpoint. told (plain_command (as_plain terms.dialect (record {
      endpoint = endpoint;
      verb = verb.Get;
      path = path_of request.target;
      pairs = raw_pairs (query_of request.target);
      body = object_in request.body;
      expects = expected_in request.if_match;
    })) terms.boot)) is
    ∙ ap (λ read. told (followed read (λ query. mapped (λ what. record { project = project_of query; what = what; expects = expected_in request.if_match })
    (what_at (endpoint.List kind) verb.Get (path_of request.target) query terms.boot
    (option_map (body_in terms.dialect (endpoint.List kind) verb.Get (path_of request.target)) (object_in request.body)))))) said

pub asked_by_query : ListsAreAskedByTheirQuery
unfolding list_query
asked_by_query request line kind terms query asked is can listed =
    asks request line verb.Get terms asked
    ∙ at_list request line kind terms query is
    (ap (λ taken. query_said taken (pairs_in terms.dialect (endpoint.List kind) verb.Get (raw_pairs (query_of request.target)))) can
    ∙ ap (λ pairs. query_said true pairs) (sym (same_pairs terms.dialect kind (raw_pairs (query_of request.target)) can))
    ∙ good _ query listed)
