-- Which events a request asks for (`GET /1.0/events` of the REST API of Incus).
use Rattle.std.specs.Prelude.{Bool, ◌&&◌, if◌then◌else◌, Option, Some, None, Result, Ok, is_some, codes}
use Rattle.std.specs.Str.{bytes_eq}
use Rattle.http_heads.specs.declared.request.Request.{Request}
use Rattle.records.specs.declared.notices.Filter.{Filter}
use Rattle.records.specs.declared.refusals.Refusal.{Refusal}
use Rattle.rest_routes.specs.Answers.{mapped}
use Rattle.rest_routes.specs.Paths.{path_of, query_of}
use Rattle.rest_routes.specs.Queries.{query_from_text, project_of, wanted_types}
use Rattle.rest_routes.specs.declared.query.Query.{Query}

-- the request is a GET of `/1.0/events` that asks for the WebSocket protocol
abbrev pub asks_events : Request → Bool
asks_events request =
    bytes_eq request.method (codes "GET")
    && bytes_eq (path_of request.target) (codes "/1.0/events")
    && is_some request.upgrade

-- the events that a query asks for: those of its project, of the types that it lists
abbrev pub filter_from : Query → Filter
filter_from query =
    record { life = (wanted_types query).lifecycle; op = (wanted_types query).operation; project = project_of query }

-- The events that a request asks for, if it asks for any. A bad query is refused (A3), as that of any other request.
unfoldable pub filter_of : Request → Result (Option Filter) Refusal
filter_of request =
    if asks_events request
    then mapped (λ query. Some (filter_from query)) (query_from_text (query_of request.target))
    else Ok None
