-- Whole runs, whatever the command.
use Rattle.std.proofs.Common.{◌≡◌, ◌∙◌, ◌++◌, ◌+◌, ◌≤◌, ℕ, ap, sym, refl, arith, length, List, [], ◌∷◌, Option, Some, None}
use Rattle.std.specs.Option.{option_map, option_map_or}
use Rattle.client_replies.specs.Forms.{Told}
use Rattle.client_words.specs.declared.words.ClientWords.{ClientWords}
use Rattle.client_steps.specs.Laws.{EndsOnce, IsAnsweredFirst, KnowsNoFuture}
use Rattle.client_steps.specs.Legs.{first_request, legs_of}
use Rattle.client_steps.specs.Runs.{Ending, ended_behind, ending_from, ending_of, requests_from, sent_behind}
use Rattle.client_steps.specs.Steps.{next_of}
use Rattle.client_steps.specs.declared.legs.Leg.{Leg}
use Rattle.client_steps.specs.declared.steps.Next.{Next}
use Rattle.client_steps.specs.declared.steps.Next.TheVariants.{End, Send}

-- ---- how many requests there are

few_behind : (next : Next) (request : List ℕ) (following : List ℕ → List (List ℕ)) (count : ℕ)
    → ((r : List ℕ) → length (following r) ≤ count + 1) → length (request ∷ sent_behind next following) ≤ count + 1 + 1
few_behind (Send r) request following count few = let least = few r in omega (arith, least)
few_behind (End text status) request following count few = omega arith

few_from : (words : ClientWords) (legs : List Leg) (request : List ℕ) (replies : List Told)
    → length (requests_from words legs request replies) ≤ length replies + 1
few_from words legs request [] = omega arith
few_from words [] request (told ∷ replies) = omega arith
few_from words (leg ∷ more) request (told ∷ replies) =
    let behind = few_behind (next_of words (leg ∷ more) told) request (λ next. requests_from words more next replies)
    (length replies) (λ next. few_from words more next replies) in omega (arith, behind)

pub few : IsAnsweredFirst
few words replies = few_from words (legs_of words.asks) (first_request words (legs_of words.asks)) replies

-- ---- what follows later

-- the requests from one on begin with it
begins : (words : ClientWords) (legs : List Leg) (request : List ℕ) (later : List Told)
    → (rest : List (List ℕ)) × (requests_from words legs request later ≡ (request ∷ []) ++ rest)
begins words legs request [] = ([], refl)
begins words [] request (told ∷ later) = ([], refl)
begins words (leg ∷ more) request (told ∷ later) =
    (sent_behind (next_of words (leg ∷ more) told) (λ next. requests_from words more next later), refl)

grown_behind : (next : Next) (request : List ℕ) (before after : List ℕ → List (List ℕ))
    → ((r : List ℕ) → (rest : List (List ℕ)) × (after r ≡ before r ++ rest))
    → (rest : List (List ℕ)) × (request ∷ sent_behind next after ≡ (request ∷ sent_behind next before) ++ rest)
grown_behind (Send r) request before after grown = let found = grown r in (found.0, ap (λ rs. request ∷ rs) found.1)
grown_behind (End text status) request before after grown = ([], refl)

grown_from : (words : ClientWords) (legs : List Leg) (request : List ℕ) (replies later : List Told)
    → (rest : List (List ℕ))
    × (requests_from words legs request (replies ++ later) ≡ requests_from words legs request replies ++ rest)
grown_from words legs request [] later = begins words legs request later
grown_from words [] request (told ∷ replies) later = ([], refl)
grown_from words (leg ∷ more) request (told ∷ replies) later =
    grown_behind (next_of words (leg ∷ more) told) request (λ next. requests_from words more next replies)
    (λ next. requests_from words more next (replies ++ later)) (λ next. grown_from words more next replies later)

pub grown : KnowsNoFuture
grown words replies later = grown_from words (legs_of words.asks) (first_request words (legs_of words.asks)) replies later

-- ---- the end

ended_later : (next : Next) (before after : Option Ending) (ending : Ending) → (before ≡ Some ending → after ≡ Some ending)
    → ended_behind next before ≡ Some ending → ended_behind next after ≡ Some ending
ended_later (Send r) before after ending stays is = stays is
ended_later (End text status) before after ending stays is = is

ends_from : (words : ClientWords) (legs : List Leg) (replies later : List Told) (ending : Ending)
    → ending_from words legs replies ≡ Some ending → ending_from words legs (replies ++ later) ≡ Some ending
ends_from words legs [] later ending is = absurd (cc is)
ends_from words [] (told ∷ replies) later ending is = absurd (cc is)
ends_from words (leg ∷ more) (told ∷ replies) later ending is =
    ended_later (next_of words (leg ∷ more) told) (ending_from words more replies) (ending_from words more (replies ++ later))
    ending (ends_from words more replies later ending) is

-- what has ended did so in some way
status_from : (found : Option Ending) (status : ℕ) → option_map (λ (e : Ending). e.1) found ≡ Some status
    → (ending : Ending) × ((found ≡ Some ending) × (ending.1 ≡ status))
status_from None status is = absurd (cc is)
status_from (Some ending) status is = (ending, (refl, cc))

pub once : EndsOnce
once words replies later status is =
    let ended = status_from (ending_of words replies) status is in
    let stays = ends_from words (legs_of words.asks) replies later ended.0 ended.1.0 in (
      ap (option_map (λ (e : Ending). e.1)) stays ∙ ap Some ended.1.1,
      ap (λ (found : Option Ending). option_map_or (λ (e : Ending). e.0) found []) (stays ∙ sym ended.1.0),
    )
