-- A command with its requests, its replies, and how it ends.
use Rattle.std.specs.Prelude.{◌≡◌, ℕ, ◌⊎◌, Bool, List, [], ◌∷◌, ◌++◌, take, drop, Option, Some, None, Result, Ok, Err}
use Rattle.std.specs.List.{concat}
use Rattle.std.specs.Io.KnownBytes.{Appends, Consumes}
use Rattle.http_front.specs.Held.{IsOver}
use Rattle.client_replies.specs.Forms.{Told}
use Rattle.client_replies.specs.Replies.{Begins, HasBegun, IsMalformed}
use Rattle.client_words.specs.declared.words.ClientWords.{ClientWords}
use Rattle.client_steps.specs.Legs.{legs_of}
use Rattle.client_steps.specs.Runs.{requests_from, requests_of, ending_from, ending_of}
use Rattle.client_steps.specs.Steps.{next_of}
use Rattle.client_steps.specs.declared.legs.Leg.{Leg}
use Rattle.client_steps.specs.declared.steps.Next.{Next}
use Rattle.client_run.specs.declared.receive.Stop.{Stop}
use Rattle.client_run.specs.declared.receive.Stop.TheVariants as stop
use Rattle.client_run.specs.declared.talk.Ending.{Ending}

-- Of the bytes that were held and those that the link gave, these replies were read, and the rest is held.
pub record Reads (old new : List ℕ) (left left' : Option (List ℕ)) (replies : List Told) : Type 0 where
  pub more : List ℕ
  pub from : Consumes left left' more
  pub begins : Begins (old ++ more) replies new

-- some of the first of these bytes were sent
pub record SendsSome (sent sent' : Option (List ℕ)) (bytes : List ℕ) : Type 0 where
  pub count : ℕ
  pub written : Appends sent sent' (take count bytes)

-- ---- a request and the reply to it

-- the request was sent, its reply was read, and this follows on it
pub record Answered (legs : List Leg) (words : ClientWords) (request old new : List ℕ) (left left' sent sent' : Option (List ℕ))
    (next : Next) : Type 0 where
  pub tells : Told
  pub reads : Reads old new left left' (tells ∷ [])
  pub written : Appends sent sent' request
  pub is : next ≡ next_of words legs tells

-- how much of the request was sent, what was read, and what is held, where the command goes on no further
abbrev pub Halts : List ℕ → List ℕ → List ℕ → Option (List ℕ) → Option (List ℕ) → Bool → Option (List ℕ) → Option (List ℕ) → Stop → Type 0
Halts request old new left left' ended sent sent' stop.Malformed =
    Reads old new left left' [] × Appends sent sent' request × (IsMalformed new ⊎ (HasBegun new × IsOver ended left'))
Halts request old new left left' ended sent sent' stop.LinkFailed = Reads old new left left' [] × SendsSome sent sent' request
Halts request old new left left' ended sent sent' stop.NoMemory =
    (replies : List Told) × Reads old new left left' replies × SendsSome sent sent' request

-- ---- a command up to a request that is not sent yet

-- These requests were sent, and these replies were read, after which the request of this number is next; whatever is replied
-- later, the command goes on from there as it does from its beginning.
pub record Going (words : ClientWords) (left left' sent sent' : Option (List ℕ)) (held : List ℕ) (answered : ℕ) (request : List ℕ)
    : Type 0 where
  pub replies : List Told
  pub reads : Reads [] held left left' replies
  pub requests : List (List ℕ)
  pub written : Appends sent sent' (concat requests)
  pub onward : (later : List Told)
      → requests_of words (replies ++ later) ≡ requests ++ requests_from words (drop answered (legs_of words.asks)) request later
  pub ending : (later : List Told)
      → ending_of words (replies ++ later) ≡ ending_from words (drop answered (legs_of words.asks)) later

-- ---- a command from its beginning to its end

-- the requests to these replies were sent, or some of the first of their bytes where the link failed or memory was refused
abbrev pub SendsBy : ClientWords → List Told → Option (List ℕ) → Option (List ℕ) → Result Ending Stop → Type 0
SendsBy words replies sent sent' (Ok ending) = Appends sent sent' (concat (requests_of words replies))
SendsBy words replies sent sent' (Err stop.Malformed) = Appends sent sent' (concat (requests_of words replies))
SendsBy words replies sent sent' (Err stop.LinkFailed) = SendsSome sent sent' (concat (requests_of words replies))
SendsBy words replies sent sent' (Err stop.NoMemory) = SendsSome sent sent' (concat (requests_of words replies))

-- The command ends by these replies; or what stands behind them is malformed, or has begun and is not whole where the link has
-- ended; or the link failed; or memory was refused.
abbrev pub EndsBy : ClientWords → List Told → List ℕ → Bool → Option (List ℕ) → Result Ending Stop → Type 0
EndsBy words replies rest ended left (Ok ending) = ending_of words replies ≡ Some (ending.text, ending.status)
EndsBy words replies rest ended left (Err stop.Malformed) =
    (ending_of words replies ≡ None) × (IsMalformed rest ⊎ (HasBegun rest × IsOver ended left))
EndsBy words replies rest ended left (Err stop.LinkFailed) = ending_of words replies ≡ None
EndsBy words replies rest ended left (Err stop.NoMemory) = Unit {0}

pub record Talked (words : ClientWords) (left left' : Option (List ℕ)) (ended : Bool) (sent sent' : Option (List ℕ))
    (result : Result Ending Stop) : Type 0 where
  pub replies : List Told
  pub rest : List ℕ
  pub reads : Reads [] rest left left' replies
  pub sends : SendsBy words replies sent sent' result
  pub ends : EndsBy words replies rest ended left' result
