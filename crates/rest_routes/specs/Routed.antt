-- What is said of the commands that requests ask for.
use Rattle.std.specs.Prelude.{◌≡◌, true, Some, Ok, IfOk, IsTrue}
use Rattle.http_heads.specs.declared.request.Request.{Request}
use Rattle.records.specs.Forms.{is_formed}
use Rattle.records.specs.declared.commands.What.TheVariants as what
use Rattle.rest_json.specs.declared.terms.Dialect.TheVariants as dialect
use Rattle.rest_json.specs.declared.terms.Terms.{Terms}
use Rattle.rest_routes.specs.Commands.{asked_at, command_of, expected_in, plain_command, told}
use Rattle.rest_routes.specs.Endpoints.{line_of, verb_offered}
use Rattle.rest_routes.specs.Filters.{can_be_filtered, list_query}
use Rattle.rest_routes.specs.Leniencies.{as_plain}
use Rattle.rest_routes.specs.Paths.{path_of}
use Rattle.rest_routes.specs.Queries.{asks_objects, project_of}
use Rattle.rest_routes.specs.Targets.{objects_of}
use Rattle.rest_routes.specs.declared.endpoints.Endpoint.TheVariants as endpoint
use Rattle.rest_routes.specs.declared.endpoints.Line.{Line}
use Rattle.rest_routes.specs.declared.endpoints.Verb.{Verb}
use Rattle.rest_routes.specs.declared.endpoints.Verb.TheVariants as verb
use Rattle.rest_routes.specs.declared.query.Query.{Query}
use Rattle.size_values.specs.declared.kinds.ObjectKind.{ObjectKind}

-- the command of each request is formed
abbrev pub RoutedIsFormed : Type 0
RoutedIsFormed = (request : Request) (terms : Terms) → IfOk (command_of request terms) (λ command. IsTrue (is_formed command))

-- where a listed path offers the method of a request
abbrev pub IsAsked : Request → Line → Verb → Type 0
IsAsked request line verb =
    (line_of (path_of request.target) ≡ Some line) × (verb_offered line request.method ≡ Some verb)

-- in the plain dialect a request asks for what it says
abbrev pub PlainAsksAsItIs : Type 0
PlainAsksAsItIs =
    (request : Request) (line : Line) (verb : Verb) (terms : Terms) → IsAsked request line verb → terms.dialect ≡ dialect.Plain
    → command_of request terms ≡ told (plain_command (asked_at line verb request) terms.boot)

-- in the client's dialect it asks for what it says in plain without the lenient parts
abbrev pub ClientAsksInPlain : Type 0
ClientAsksInPlain =
    (request : Request) (line : Line) (verb : Verb) (terms : Terms) → IsAsked request line verb → terms.dialect ≡ dialect.Client
    → command_of request terms ≡ told (plain_command (as_plain dialect.Client (asked_at line verb request)) terms.boot)

-- A list that takes a filter is asked for by its query, which is the one that its reply is cut by; with a filter it is
-- asked for whole.
abbrev pub ListsAreAskedByTheirQuery : Type 0
ListsAreAskedByTheirQuery =
    (request : Request) (line : Line) (kind : ObjectKind) (terms : Terms) (query : Query)
    → IsAsked request line verb.Get → line.endpoint ≡ endpoint.List kind → can_be_filtered kind ≡ true
    → list_query terms.dialect request.target ≡ Some query
    → command_of request terms ≡ Ok (record {
      project = project_of query;
      what = what.List (objects_of kind (path_of request.target)) (asks_objects query);
      expects = expected_in request.if_match;
    })
