-- Runs over tokens without their places.
use Rattle.std.proofs.Common.{◌≡◌, ℕ, ◌⊎◌, inl, inr, List, [], ◌∷◌, ◌++◌, map, Option, Some, None, Result, Ok, Err, refl, ap, ◌∙◌}
use Rattle.std.specs.Option.{option_and_then, option_map_or}
use Rattle.filter_texts.specs.declared.choice.Step.{Step}
use Rattle.filter_texts.specs.Tokens.{Token, Placed}
use Rattle.filter_texts.specs.Reading.{State, advance, finished, read_tokens}

-- the state after the tokens, if each of them can stand
abbrev pub goes : State → List Token → Option State
goes s [] = Some s
goes s (token ∷ tokens) = option_and_then (λ next. goes next tokens) (advance s token)

append_step : (xs ys : List Token) (o : Option State)
    → ((n : State) → goes n (xs ++ ys) ≡ option_and_then (λ next. goes next ys) (goes n xs))
    → option_and_then (λ n. goes n (xs ++ ys)) o ≡ option_and_then (λ next. goes next ys) (option_and_then (λ n. goes n xs) o)
append_step xs ys None more = refl
append_step xs ys (Some n) more = more n

pub goes_append : (s : State) (xs ys : List Token) → goes s (xs ++ ys) ≡ option_and_then (λ next. goes next ys) (goes s xs)
goes_append s [] ys = refl
goes_append s (x ∷ xs) ys = append_step xs ys (advance s x) (λ n. goes_append n xs ys)

-- one run after another
pub goes_on : (s m : State) (xs ys : List Token) (r : Option State) → goes s xs ≡ Some m → goes m ys ≡ r → goes s (xs ++ ys) ≡ r
goes_on s m xs ys r e h = goes_append s xs ys ∙ ap (λ o. option_and_then (λ next. goes next ys) o) e ∙ h

-- one token, and then a run
pub goes_more : (s n : State) (token : Token) (tokens : List Token) (r : Option State) → advance s token ≡ Some n → goes n tokens ≡ r
    → goes s (token ∷ tokens) ≡ r
goes_more s n token tokens r e h = ap (λ o. option_and_then (λ next. goes next tokens) o) e ∙ h

-- what a run to the end of the tokens answers
abbrev pub answer : ℕ → State → Result (List Step) ℕ
answer end s = option_map_or (λ steps. Ok steps) (finished s.stage s.frames s.steps) (Err end)

-- a run that stops at a token
pub record Stops (s : State) (tokens : List Placed) : Type 0 where
  pub before : List Placed
  pub unfit : Placed
  pub later : List Placed
  pub last : State
  pub all : tokens ≡ before ++ unfit ∷ later
  pub runs : goes s (map (λ placed. placed.token) before) ≡ Some last
  pub stops : advance last unfit.token ≡ None
  pub reads : (end : ℕ) → read_tokens end s tokens ≡ Err unfit.place

-- a run to the end
pub record Passes (s : State) (tokens : List Placed) : Type 0 where
  pub last : State
  pub runs : goes s (map (λ placed. placed.token) tokens) ≡ Some last
  pub reads : (end : ℕ) → read_tokens end s tokens ≡ answer end last

none_passes : (s : State) → Passes s []
unfolding read_tokens
none_passes s = record { last = s; runs = refl; reads = λ end. refl }

one_stops : (s : State) (placed : Placed) (tokens : List Placed) → advance s placed.token ≡ None → Stops s (placed ∷ tokens)
unfolding read_tokens
one_stops s placed tokens e = record {
  before = [];
  unfit = placed;
  later = tokens;
  last = s;
  all = refl;
  runs = refl;
  stops = e;
  reads = λ end. ap (λ o. option_map_or (λ next. read_tokens end next tokens) o (Err placed.place)) e;
}

one_passes : (s n : State) (placed : Placed) (tokens : List Placed) → advance s placed.token ≡ Some n
    → Passes n tokens ⊎ Stops n tokens → Passes s (placed ∷ tokens) ⊎ Stops s (placed ∷ tokens)
unfolding read_tokens
one_passes s n placed tokens e (inl h) = inl (record {
  last = h.last;
  runs = goes_more s n placed.token _ _ e h.runs;
  reads = λ end. ap (λ o. option_map_or (λ next. read_tokens end next tokens) o (Err placed.place)) e ∙ h.reads end;
})
one_passes s n placed tokens e (inr h) = inr (record {
  before = placed ∷ h.before;
  unfit = h.unfit;
  later = h.later;
  last = h.last;
  all = ap (λ ts. placed ∷ ts) h.all;
  runs = goes_more s n placed.token _ _ e h.runs;
  stops = h.stops;
  reads = λ end. ap (λ o. option_map_or (λ next. read_tokens end next tokens) o (Err placed.place)) e ∙ h.reads end;
})

one_turn : (s : State) (placed : Placed) (tokens : List Placed) (o : Option State) → advance s placed.token ≡ o
    → ((n : State) → Passes n tokens ⊎ Stops n tokens) → Passes s (placed ∷ tokens) ⊎ Stops s (placed ∷ tokens)
one_turn s placed tokens None e later = inr (one_stops s placed tokens e)
one_turn s placed tokens (Some n) e later = one_passes s n placed tokens e (later n)

-- each run goes to the end, or stops at a token
pub either_way : (s : State) (tokens : List Placed) → Passes s tokens ⊎ Stops s tokens
either_way s [] = inl (none_passes s)
either_way s (placed ∷ tokens) = one_turn s placed tokens (advance s placed.token) refl (λ n. either_way n tokens)
