-- The requests of each command, in their order.
use Rattle.std.specs.Prelude.{ℕ, List, [], ◌∷◌, ◌++◌, Some, None, codes}
use Rattle.form_urlencoded.specs.Form.{append_pair}
use Rattle.workload.specs.Stream.{request}
use Rattle.client_words.specs.declared.words.Asks.{Asks}
use Rattle.client_words.specs.declared.words.Asks.TheVariants as asks
use Rattle.client_words.specs.declared.words.ClientWords.{ClientWords}
use Rattle.client_steps.specs.declared.legs.Leg.{Leg}
use Rattle.client_steps.specs.declared.legs.Leg.TheVariants as leg

-- the legs of a command, each of which is a request with its reply: what begins an operation is followed by the wait for
-- its end
abbrev pub legs_of : Asks → List Leg
legs_of (asks.List filter) = leg.List ∷ []
legs_of (asks.Launch name) = leg.Create ∷ leg.Await ∷ leg.Start ∷ leg.Await ∷ []
legs_of (asks.Start name) = leg.Start ∷ leg.Await ∷ []
legs_of (asks.Stop name) = leg.Stop ∷ leg.Await ∷ []
legs_of (asks.Delete name) = leg.Delete ∷ leg.Await ∷ []
legs_of (asks.Wait id) = leg.Wait ∷ []
legs_of (asks.Cancel id) = leg.Cancel ∷ []
legs_of asks.Limits = leg.Limits ∷ []

-- the instance or the operation that a command names
abbrev pub named : Asks → List ℕ
named (asks.List filter) = []
named (asks.Launch name) = name
named (asks.Start name) = name
named (asks.Stop name) = name
named (asks.Delete name) = name
named (asks.Wait id) = id
named (asks.Cancel id) = id
named asks.Limits = []

-- the filter of a list, as a form writes it
abbrev pub filter_query : Asks → List ℕ
filter_query (asks.List (Some filter)) = codes "&" ++ append_pair [] (codes "filter") filter
filter_query (asks.List None) = []
filter_query (asks.Launch name) = []
filter_query (asks.Start name) = []
filter_query (asks.Stop name) = []
filter_query (asks.Delete name) = []
filter_query (asks.Wait id) = []
filter_query (asks.Cancel id) = []
filter_query asks.Limits = []

-- the line of a request, by its method and its target; the operation is the path of the one that was begun last
abbrev pub line_of : ClientWords → Leg → List ℕ → List ℕ
line_of words leg.List operation =
    codes "GET /1.0/instances?project=" ++ words.project ++ codes "&recursion=1" ++ filter_query words.asks
line_of words leg.Create operation = codes "POST /1.0/instances?project=" ++ words.project
line_of words leg.Start operation =
    codes "PUT /1.0/instances/" ++ named words.asks ++ codes "/state?project=" ++ words.project
line_of words leg.Stop operation =
    codes "PUT /1.0/instances/" ++ named words.asks ++ codes "/state?project=" ++ words.project
line_of words leg.Delete operation =
    codes "DELETE /1.0/instances/" ++ named words.asks ++ codes "?project=" ++ words.project
line_of words leg.Await operation = codes "GET " ++ operation ++ codes "/wait?timeout=-1"
line_of words leg.Wait operation = codes "GET /1.0/operations/" ++ named words.asks ++ codes "/wait?timeout=-1"
line_of words leg.Cancel operation = codes "DELETE /1.0/operations/" ++ named words.asks
line_of words leg.Limits operation = codes "GET /1.0/projects/" ++ words.project ++ codes "/state"

-- the body of a request
abbrev pub body_of : ClientWords → Leg → List ℕ
body_of words leg.List = []
body_of words leg.Create = codes "{\"name\":\"" ++ named words.asks ++ codes "\",\"source\":{\"type\":\"none\"}}"
body_of words leg.Start = codes "{\"action\":\"start\"}"
body_of words leg.Stop = codes "{\"action\":\"stop\"}"
body_of words leg.Delete = []
body_of words leg.Await = []
body_of words leg.Wait = []
body_of words leg.Cancel = []
body_of words leg.Limits = []

-- the bytes of a request: its line, the host, the length of its body, and the body
abbrev pub request_of : ClientWords → Leg → List ℕ → List ℕ
request_of words leg operation = request (line_of words leg operation) (body_of words leg)

-- the first request of a command; each command has one
abbrev pub first_request : ClientWords → List Leg → List ℕ
first_request words [] = []
first_request words (leg ∷ more) = request_of words leg []
