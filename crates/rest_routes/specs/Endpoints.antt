-- The paths of the REST API, what stands at each, and which methods are offered there.
use Rattle.std.specs.Prelude.{◌≡◌, ◌↔◌, ℕ, Bool, true, false, ◌&&◌, ◌||◌, List}
use Rattle.std.specs.Prelude.{[], ◌∷◌, map, Option, Some, None, Result, Ok, Err}
use Rattle.std.specs.Prelude.{is_none, option_map, option_and_then, if◌then◌else◌, codes}
use Rattle.std.specs.Str.{bytes_eq}
use Rattle.matchit.specs.Level.{IsText}
use Rattle.matchit.specs.Order.{placed}
use Rattle.matchit.specs.Route.{Scan, parse_route}
use Rattle.matchit.specs.Router.{RouteOf, route_from, nearest}
use Rattle.matchit.specs.Rows.{RowsOf}
use Rattle.matchit.specs.Seek.{first}
use Rattle.matchit.specs.declared.error.InsertError.{InsertError}
use Rattle.rest_routes.specs.declared.endpoints.TheConstants.{EMPTY_LISTS, ROUTES}
use Rattle.rest_routes.specs.declared.endpoints.Line.{Line}
use Rattle.rest_routes.specs.declared.endpoints.Methods.{Methods}
use Rattle.rest_routes.specs.declared.endpoints.Endpoint.{Endpoint}
use Rattle.rest_routes.specs.declared.endpoints.Endpoint.TheVariants as endpoint
use Rattle.rest_routes.specs.declared.endpoints.Verb.{Verb}
use Rattle.rest_routes.specs.declared.endpoints.Verb.TheVariants as verb

-- ---- paths

-- a line of the table of routes
abbrev pub line_with : Endpoint → Methods → Line
line_with endpoint methods = record { endpoint = endpoint; offers = methods }

-- the paths of the table, each with its line
unfoldable pub routes : List (List ℕ × Line)
routes = map (λ route. (route.0.now, line_with route.1 route.2)) ROUTES.now

-- the rows of the router that finds the line of a path
abbrev pub PathRows : Type 0
PathRows = RowsOf (RouteOf Line)

-- the router's rows with one more path, if it can be read
abbrev pub row_added : Result Scan InsertError → Line → PathRows → PathRows
row_added (Ok scan) line rows = placed (scan.pattern, route_from scan line) rows
row_added (Err error) line rows = rows

-- the rows with each of these paths, added in this order
abbrev pub rows_after : List (List ℕ × Line) → PathRows → PathRows
rows_after [] rows = rows
rows_after (route ∷ more) rows = rows_after more (row_added (parse_route route.0) route.1 rows)

-- a path that can be read, and that conflicts with no row
abbrev pub is_taken : Result Scan InsertError → PathRows → Bool
is_taken (Ok scan) rows = is_none (nearest scan.pattern rows)
is_taken (Err error) rows = false

-- each of these paths can be added to the rows, in this order
abbrev pub are_taken : List (List ℕ × Line) → PathRows → Bool
are_taken [] rows = true
are_taken (route ∷ more) rows =
    is_taken (parse_route route.0) rows && are_taken more (row_added (parse_route route.0) route.1 rows)

-- the rows of the router that knows the listed paths
unfoldable pub rows : PathRows
rows = rows_after routes []

-- the line of the table that a path belongs to, if it is listed
unfoldable pub line_of : List ℕ → Option Line
line_of path = option_map (λ route. route.value) (first rows path)

-- ---- lists that are always empty here

-- the paths of lists of what Incus has and this server has not
unfoldable pub empty_lists : List (List ℕ × Line)
empty_lists = map (λ route. (route.0.now, line_with route.1 route.2)) EMPTY_LISTS.now

-- the rows of the router that knows these paths
unfoldable pub empty_rows : PathRows
empty_rows = rows_after empty_lists []

-- the line of such a list
unfoldable pub empty_line_of : List ℕ → Option Line
empty_line_of path = option_map (λ route. route.value) (first empty_rows path)

-- events stand at this path and at no other
abbrev pub EventsStandAtOnePath : Type 0
EventsStandAtOnePath =
    (path : List ℕ) → IsText path
    → (option_map (λ line. line.endpoint) (line_of path) ≡ Some endpoint.Events) ↔ (path ≡ codes "/1.0/events")

-- the line of the server, where GET alone is offered
abbrev pub server_line : Line
server_line = line_with endpoint.Server
    (record { get = true; post = false; put = false; patch = false; delete = false })

-- ---- methods

-- the method of a request, if any path offers it; HEAD asks for what GET does (RFC 9110, section 9.3.2)
unfoldable pub verb_of : List ℕ → Option Verb
verb_of method =
    if bytes_eq method (codes "GET") || bytes_eq method (codes "HEAD") then Some verb.Get
    else (if bytes_eq method (codes "POST") then Some verb.Post
    else (if bytes_eq method (codes "PUT") then Some verb.Put
    else (if bytes_eq method (codes "PATCH") then Some verb.Patch
    else (if bytes_eq method (codes "DELETE") then Some verb.Delete
    else None))))

-- its body is read
abbrev pub has_body : Verb → Bool
has_body verb.Get = false
has_body verb.Post = true
has_body verb.Put = true
has_body verb.Patch = true
has_body verb.Delete = false

-- the method is one of these
abbrev pub is_offered : Methods → Verb → Bool
is_offered methods verb.Get = methods.get
is_offered methods verb.Post = methods.post
is_offered methods verb.Put = methods.put
is_offered methods verb.Patch = methods.patch
is_offered methods verb.Delete = methods.delete

-- a method that is one of these
abbrev pub if_offered : Methods → Verb → Option Verb
if_offered methods verb = if is_offered methods verb then Some verb else None

-- the method of this name, if a line of the table offers it
unfoldable pub verb_offered : Line → List ℕ → Option Verb
verb_offered line method = option_and_then (if_offered line.offers) (verb_of method)
