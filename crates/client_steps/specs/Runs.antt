-- A whole run of a command: the replies, one after the other, and what is sent and printed on them.
use Rattle.std.specs.Prelude.{ℕ, List, [], ◌∷◌, Option, Some, None, option_map}
use Rattle.std.specs.Option.{option_map_or}
use Rattle.client_replies.specs.Forms.{Told}
use Rattle.client_words.specs.declared.words.ClientWords.{ClientWords}
use Rattle.client_steps.specs.Legs.{first_request, legs_of}
use Rattle.client_steps.specs.Steps.{next_of}
use Rattle.client_steps.specs.declared.legs.Leg.{Leg}
use Rattle.client_steps.specs.declared.steps.Next.{Next}
use Rattle.client_steps.specs.declared.steps.Next.TheVariants.{End, Send}

-- what is sent behind a reply: the next request with what follows it, and nothing at the end
abbrev pub sent_behind : Next → (List ℕ → List (List ℕ)) → List (List ℕ)
sent_behind (Send request) following = following request
sent_behind (End text status) following = []

-- the requests from this one on
abbrev pub requests_from : ClientWords → List Leg → List ℕ → List Told → List (List ℕ)
requests_from words legs request [] = request ∷ []
requests_from words [] request (told ∷ replies) = request ∷ []
requests_from words (leg ∷ more) request (told ∷ replies) =
    request ∷ sent_behind (next_of words (leg ∷ more) told) (λ next. requests_from words more next replies)

-- the requests that are sent on so many replies, in their order
abbrev pub requests_of : ClientWords → List Told → List (List ℕ)
requests_of words replies =
    requests_from words (legs_of words.asks) (first_request words (legs_of words.asks)) replies

-- how a run ends: what is printed, and the status
abbrev pub Ending : Type 0
Ending = List ℕ × ℕ

-- where a reply leads to: to the end, or on
abbrev pub ended_behind : Next → Option Ending → Option Ending
ended_behind (Send request) following = following
ended_behind (End text status) following = Some (text, status)

abbrev pub ending_from : ClientWords → List Leg → List Told → Option Ending
ending_from words legs [] = None
ending_from words [] (told ∷ replies) = None
ending_from words (leg ∷ more) (told ∷ replies) =
    ended_behind (next_of words (leg ∷ more) told) (ending_from words more replies)

-- how a run ends by these replies, where it ends by them
abbrev pub ending_of : ClientWords → List Told → Option Ending
ending_of words replies = ending_from words (legs_of words.asks) replies

-- what is printed on so many replies
abbrev pub lines_of : ClientWords → List Told → List ℕ
lines_of words replies = option_map_or (λ ending. ending.0) (ending_of words replies) []

-- the status with which a run ends, where it ends by these replies
abbrev pub status_of : ClientWords → List Told → Option ℕ
status_of words replies = option_map (λ ending. ending.1) (ending_of words replies)
