-- Where a text goes wrong, in words of the grammar.
use Rattle.std.specs.Prelude.{ℕ, ◌≡◌, List, [], ◌∷◌, ◌++◌, length, map, ◌⊎◌}
use Rattle.filter_texts.specs.Tokens.{Token, Placed, placed_tokens, tokens_of}
use Rattle.filter_texts.specs.Grammar.{Filter, IsFilter}

-- some tokens behind these make a filter of them
abbrev pub CanGoOn : List Token → Type 0
CanGoOn tokens = (more : List Token) × (f : Filter) × IsFilter 0 (tokens ++ more) f

abbrev pub without_places : List Placed → List Token
without_places tokens = map (λ placed. placed.token) tokens

-- the place is that of a token that no filter has behind those before it, which some filter has
pub record IsAtUnfit (tokens : List Placed) (place : ℕ) : Type 0 where
  pub before : List Placed
  pub unfit : Placed
  pub later : List Placed
  pub all : tokens ≡ before ++ unfit ∷ later
  pub there : unfit.place ≡ place
  pub fits : CanGoOn (without_places before)
  pub stops : ¬ (CanGoOn (without_places before ++ unfit.token ∷ []))

-- the place is the end of a text that is no filter, and whose tokens can go on to one
pub record IsAtEnd (text : List ℕ) (place : ℕ) : Type 0 where
  pub there : place ≡ length text
  pub fits : CanGoOn (tokens_of text)
  pub short : (f : Filter) → ¬ (IsFilter 0 (tokens_of text) f)

-- the place of the fault of a text
abbrev pub IsFaultPlace : List ℕ → ℕ → Type 0
IsFaultPlace text place = IsAtUnfit (placed_tokens text) place ⊎ IsAtEnd text place
