-- Laws of whole runs: each command, its requests in their order, and how it ends.
use Rattle.std.specs.Prelude.{◌≡◌, ℕ, ◌+◌, ◌≤◌, List, [], ◌∷◌, ◌++◌, length, IsSome, Some, None, codes, decimal, negsuc}
use Rattle.serde_json.specs.Data.{Data, no_items, item, array, no_members, member, number, unsigned, negative, object, string}
use Rattle.workload.specs.Stream.{request}
use Rattle.client_replies.specs.Forms.{Told, begun, done, refused}
use Rattle.client_words.specs.declared.words.Asks.{Asks}
use Rattle.client_words.specs.declared.words.Asks.TheVariants as asks
use Rattle.client_words.specs.declared.words.ClientWords.{ClientWords}
use Rattle.client_words.specs.declared.words.Door.TheVariants.{Port}
use Rattle.client_words.specs.declared.words.Format.TheVariants.{Plain}
use Rattle.client_steps.specs.Legs.{legs_of}
use Rattle.client_steps.specs.Rows.{rows_of, text_at}
use Rattle.client_steps.specs.Runs.{lines_of, requests_of, status_of}
use Rattle.client_steps.specs.declared.legs.Leg.{Leg}
use Rattle.client_steps.specs.declared.legs.Leg.TheVariants as leg

-- words that ask for this in this project, with lines of words
abbrev pub asking : Asks → List ℕ → ClientWords
asking asked project = record { asks = asked; project = project; format = Plain; door = Port 1 }

-- on these replies the command sends these requests, prints this, and ends with this status
pub record IsRun (words : ClientWords) (replies : List Told) (requests : List (List ℕ)) (printed : List ℕ) (status : ℕ) : Type 0 where
  pub sent : requests_of words replies ≡ requests
  pub lines : lines_of words replies ≡ printed
  pub ends : status_of words replies ≡ Some status

-- on these replies it has sent these requests, and goes on
pub record GoesOn (words : ClientWords) (replies : List Told) (requests : List (List ℕ)) : Type 0 where
  pub sent : requests_of words replies ≡ requests
  pub lines : lines_of words replies ≡ []
  pub ends : status_of words replies ≡ None

-- a request without a body
abbrev pub bare : List ℕ → List ℕ
bare line = request line []

-- the wait for an operation, by its path
abbrev pub wait_at : List ℕ → List ℕ
wait_at path = bare (codes "GET " ++ path ++ codes "/wait?timeout=-1")

-- an operation that has this status, and says this of what went wrong
pub record HasEnded (body : Data) (status error : List ℕ) : Type 0 where
  pub status_is : text_at (codes "status") body ≡ Some status
  pub error_is : text_at (codes "err") body ≡ Some error

-- ---- commands that are carried out

pub record Runs : Type 0 where
  -- one request, and what its reply tells
  pub list : (project : List ℕ) → IsRun (asking (asks.List None) project)
      (done (array (item (object (member (codes "name") (string (codes "a"))
      (member (codes "status") (string (codes "Running")) no_members))) no_items)) ∷ [])
      (bare (codes "GET /1.0/instances?project=" ++ project ++ codes "&recursion=1") ∷ []) (codes "a Running\n") 0
  pub cancel : (project id : List ℕ) (body : Data) → IsRun (asking (asks.Cancel id) project) (done body ∷ [])
      (bare (codes "DELETE /1.0/operations/" ++ id) ∷ []) (id ++ codes " cancelled\n") 0
  pub wait : (project id status error : List ℕ) (body : Data) → HasEnded body status error
      → IsRun (asking (asks.Wait id) project) (done body ∷ [])
      (bare (codes "GET /1.0/operations/" ++ id ++ codes "/wait?timeout=-1") ∷ []) (id ++ codes " " ++ status ++ codes "\n") 0
  pub limits : (project : List ℕ) (usage limit : ℕ) → IsRun (asking asks.Limits project)
      (done (object (member (codes "resources") (object (member (codes "cpu") (object
      (member (codes "limit") (number (unsigned limit)) (member (codes "usage") (number (unsigned usage)) no_members)))
      no_members)) no_members)) ∷ [])
      (bare (codes "GET /1.0/projects/" ++ project ++ codes "/state") ∷ [])
      (codes "cpu " ++ decimal usage ++ codes " " ++ decimal limit ++ codes "\n") 0
  pub no_limit : (project : List ℕ) (usage : ℕ) → IsRun (asking asks.Limits project)
      (done (object (member (codes "resources") (object (member (codes "disk") (object
      (member (codes "limit") (number (negative (negsuc 0))) (member (codes "usage") (number (unsigned usage)) no_members)))
      no_members)) no_members)) ∷ [])
      (bare (codes "GET /1.0/projects/" ++ project ++ codes "/state") ∷ []) (codes "disk " ++ decimal usage ++ codes " -\n") 0
  -- an operation that is begun, and the wait for its end
  pub start : (project name path error : List ℕ) (body end : Data) → HasEnded end (codes "Success") error
      → IsRun (asking (asks.Start name) project) (begun path body ∷ done end ∷ [])
      (request (codes "PUT /1.0/instances/" ++ name ++ codes "/state?project=" ++ project) (codes "{\"action\":\"start\"}")
      ∷ wait_at path ∷ []) (name ++ codes " Running\n") 0
  pub stop : (project name path error : List ℕ) (body end : Data) → HasEnded end (codes "Success") error
      → IsRun (asking (asks.Stop name) project) (begun path body ∷ done end ∷ [])
      (request (codes "PUT /1.0/instances/" ++ name ++ codes "/state?project=" ++ project) (codes "{\"action\":\"stop\"}")
      ∷ wait_at path ∷ []) (name ++ codes " Stopped\n") 0
  pub delete : (project name path error : List ℕ) (body end : Data) → HasEnded end (codes "Success") error
      → IsRun (asking (asks.Delete name) project) (begun path body ∷ done end ∷ [])
      (bare (codes "DELETE /1.0/instances/" ++ name ++ codes "?project=" ++ project) ∷ wait_at path ∷ [])
      (name ++ codes " deleted\n") 0
  -- two of them: the second is begun once the first has succeeded
  pub launch : (project name made_at started_at made_error started_error : List ℕ) (making made starting started : Data)
      → HasEnded made (codes "Success") made_error → HasEnded started (codes "Success") started_error
      → IsRun (asking (asks.Launch name) project) (begun made_at making ∷ done made ∷ begun started_at starting ∷ done started ∷ [])
      (request (codes "POST /1.0/instances?project=" ++ project)
      (codes "{\"name\":\"" ++ name ++ codes "\",\"source\":{\"type\":\"none\"}}")
      ∷ wait_at made_at
      ∷ request (codes "PUT /1.0/instances/" ++ name ++ codes "/state?project=" ++ project) (codes "{\"action\":\"start\"}")
      ∷ wait_at started_at ∷ []) (name ++ codes " Running\n") 0
  -- before that it is not
  pub making : (project name path : List ℕ) (body : Data)
      → GoesOn (asking (asks.Launch name) project) (begun path body ∷ [])
      (request (codes "POST /1.0/instances?project=" ++ project)
      (codes "{\"name\":\"" ++ name ++ codes "\",\"source\":{\"type\":\"none\"}}") ∷ wait_at path ∷ [])
  pub not_made : (project name path error : List ℕ) (body end : Data) → HasEnded end (codes "Failure") error
      → IsRun (asking (asks.Launch name) project) (begun path body ∷ done end ∷ [])
      (request (codes "POST /1.0/instances?project=" ++ project)
      (codes "{\"name\":\"" ++ name ++ codes "\",\"source\":{\"type\":\"none\"}}") ∷ wait_at path ∷ [])
      (codes "error: " ++ error ++ codes "\n") 1

-- ---- every command

-- each reply leads to one request at most
abbrev pub IsAnsweredFirst : Type 0
IsAnsweredFirst = (words : ClientWords) (replies : List Told) → length (requests_of words replies) ≤ length replies + 1

-- what was sent does not depend on what is replied later
abbrev pub KnowsNoFuture : Type 0
KnowsNoFuture = (words : ClientWords) (replies later : List Told)
    → (rest : List (List ℕ)) × (requests_of words (replies ++ later) ≡ requests_of words replies ++ rest)

-- nor do the end and what is printed
abbrev pub EndsOnce : Type 0
EndsOnce = (words : ClientWords) (replies later : List Told) (status : ℕ) → status_of words replies ≡ Some status
    → (status_of words (replies ++ later) ≡ Some status) × (lines_of words (replies ++ later) ≡ lines_of words replies)

-- ---- commands that end well

-- an operation was begun
abbrev pub IsBegun : Told → Type 0
IsBegun (done body) = ⊥
IsBegun (begun path body) = Unit {0}
IsBegun (refused text code body) = ⊥

-- the request was carried out
abbrev pub IsDone : Told → Type 0
IsDone (done body) = Unit {0}
IsDone (begun path body) = ⊥
IsDone (refused text code body) = ⊥

-- the operation that was waited for has succeeded
abbrev pub IsSuccess : Told → Type 0
IsSuccess (done body) = (error : List ℕ) × HasEnded body (codes "Success") error
IsSuccess (begun path body) = ⊥
IsSuccess (refused text code body) = ⊥

-- the reply is one that a leg is answered by where all goes well
abbrev pub IsGoodReply : Leg → Told → Type 0
IsGoodReply leg.List told = IsDone told
IsGoodReply leg.Create told = IsBegun told
IsGoodReply leg.Start told = IsBegun told
IsGoodReply leg.Stop told = IsBegun told
IsGoodReply leg.Delete told = IsBegun told
IsGoodReply leg.Await told = IsSuccess told
IsGoodReply leg.Wait told = IsDone told
IsGoodReply leg.Cancel told = IsDone told
IsGoodReply leg.Limits told = IsDone told

-- the metadata has the form that it has behind the last request of the command
abbrev pub TellsRows : Asks → Told → Type 0
TellsRows asked (done body) = IsSome (rows_of asked body)
TellsRows asked (begun path body) = ⊥
TellsRows asked (refused text code body) = ⊥

-- each leg has such a reply, and the last one has that form
abbrev pub AreGoodReplies : Asks → List Leg → List Told → Type 0
AreGoodReplies asked [] replies = ⊥
AreGoodReplies asked (leg ∷ more) [] = ⊥
AreGoodReplies asked (leg ∷ []) (told ∷ []) = IsGoodReply leg told × TellsRows asked told
AreGoodReplies asked (leg ∷ []) (told ∷ reply ∷ replies) = ⊥
AreGoodReplies asked (leg ∷ next ∷ more) (told ∷ replies) =
    IsGoodReply leg told × AreGoodReplies asked (next ∷ more) replies

-- a command whose requests all go well ends with 0
abbrev pub EndsWell : Type 0
EndsWell = (words : ClientWords) (replies : List Told) → AreGoodReplies words.asks (legs_of words.asks) replies
    → status_of words replies ≡ Some 0
