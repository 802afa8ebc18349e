-- The texts that are read, the steps that they are read as, and the places of the other texts' faults.
use Rattle.std.proofs.Common.{◌≡◌, ℕ, ◌<◌, ◌≤◌, nat_lt, Bool, true, false, ◌⊎◌, inl, inr, List, [], ◌∷◌, ◌++◌, length, map, Option, Some, None, Ok, Err, refl, sym, ap, subst, ◌∙◌, arith, append_assoc}
use Rattle.std.proofs.lemmas.List.{map-append}
use Rattle.std.specs.Option.{option_and_then, option_map_or}
use Rattle.std.proofs.lemmas.Bool.Decides.{nat_tests}
use Rattle.filter_texts.specs.declared.choice.Step.{Step}
use Rattle.filter_texts.specs.declared.reader.Frame.{Frame}
use Rattle.filter_texts.specs.Tokens.{Token, Placed, placed_tokens, tokens_of}
use Rattle.filter_texts.specs.Grammar.{Filter, IsFilter}
use Rattle.filter_texts.specs.Meaning.{postfix}
use Rattle.filter_texts.specs.Reading.{Stage, factor, comparison, value, behind, State, start, most_bytes, finished, advance, read_tokens, choice_read}
use Rattle.filter_texts.specs.Places.{CanGoOn, without_places, IsFaultPlace}
use Rattle.filter_texts.proofs.Runs.{goes, goes_on, goes_append, answer, Stops, Passes, either_way}
use Rattle.filter_texts.proofs.Complete.{at, reads_filter}
use Rattle.filter_texts.proofs.Held.{Reaches, IsBehind, runs_reach}
use Rattle.filter_texts.proofs.Meanings.{one_tree}
use Rattle.filter_texts.proofs.Ways.{stage_ends}

-- a filter's tokens run to its steps
pub filter_runs : (tokens : List Token) (f : Filter) → IsFilter 0 tokens f → goes start tokens ≡ Some (at [] behind (postfix f))
filter_runs tokens f h = reads_filter h [] [] tt refl

start_reached : Reaches [] start
start_reached = (refl, refl)

-- a run to the end of a filter is of one
pub record IsOf (tokens : List Token) (steps : List Step) : Type 0 where
  pub f : Filter
  pub is : IsFilter 0 tokens f
  pub steps_are : steps ≡ postfix f

of_behind : (tokens : List Token) (steps : List Step) → IsBehind [] tokens steps → IsOf tokens steps
of_behind tokens steps h = record {
  f = h.f;
  is = let P : List Token → Type 0 = λ ts. IsFilter 0 ts h.f in
      subst P (sym (h.tokens_are ∙ ap (λ ts. ts ++ h.last) h.held.0)) h.is;
  steps_are = h.steps_are ∙ ap (λ ss. ss ++ postfix h.f) h.held.1;
}

pub run_is_filter : (tokens : List Token) (steps : List Step) → goes start tokens ≡ Some (at [] behind steps) → IsOf tokens steps
run_is_filter tokens steps e = of_behind tokens steps (runs_reach [] tokens start (at [] behind steps) start_reached e)

-- ---- what is read

read_whole : (text : List ℕ) → length text ≤ most_bytes → choice_read text ≡ read_tokens (length text) start (placed_tokens text)
unfolding choice_read
read_whole text h = let fits : nat_lt 4096 (length text) ≡ false = grind (arith, nat_tests) in rw fits refl

too_long : (text : List ℕ) (b : Bool) → nat_lt most_bytes (length text) ≡ b → (choice_read text ≡ Err most_bytes) ⊎ (length text ≤ most_bytes)
unfolding choice_read
too_long text true e = inl (rw e refl)
too_long text false e = inr (grind (arith, nat_tests))

some_is : {X : Type 0} (x y : X) → Some x ≡ Some y → x ≡ y
some_is x y e = cc

-- ---- tokens that some filter has, and tokens that none has

-- what a run has passed can go on to a filter
pub run_can_go_on : (tokens : List Token) (last : State) → goes start tokens ≡ Some last → CanGoOn tokens
run_can_go_on tokens last e =
    let later = stage_ends last.stage last.frames tokens last.steps (runs_reach [] tokens start last start_reached e) in
    let whole = run_is_filter (tokens ++ later.more) later.steps (goes_on start last tokens later.more _ e later.runs) in
    (later.more, whole.f, whole.is)

-- a token at which a run stops is of no filter
pub stop_is_unfit : (tokens : List Token) (last : State) (token : Token) → goes start tokens ≡ Some last → advance last token ≡ None
    → ¬ (CanGoOn (tokens ++ token ∷ []))
stop_is_unfit tokens last token e h (more, f, is) = contrary (filter_runs _ f is)
  where
    stuck : goes start (tokens ++ token ∷ []) ≡ None
    stuck = goes_on start last tokens (token ∷ []) None e (ap (λ o. option_and_then (λ next. goes next []) o) h)

    none : goes start (tokens ++ token ∷ [] ++ more) ≡ None
    none = goes_append start (tokens ++ token ∷ []) more ∙ ap (λ o. option_and_then (λ next. goes next more) o) stuck

    contrary : goes start (tokens ++ token ∷ [] ++ more) ≡ Some (at [] behind (postfix f)) → ⊥
    contrary g = let both : None ≡ Some (at [] behind (postfix f)) = sym none ∙ g in cc

-- a text at which the run stops is no filter
stops_no_filter : (text : List ℕ) (f : Filter) → Stops start (placed_tokens text) → IsFilter 0 (tokens_of text) f → ⊥
stops_no_filter text f p h =
    let token : Placed → Token = λ placed. placed.token in
    let words : tokens_of text ≡ without_places p.before ++ p.unfit.token ∷ [] ++ without_places p.later =
    ap (λ ts. map token ts) p.all ∙ map-append token p.before (p.unfit ∷ p.later)
    ∙ sym (append_assoc (without_places p.before) (p.unfit.token ∷ []) (without_places p.later)) in
    let P : List Token → Type 0 = λ ts. IsFilter 0 ts f in
    stop_is_unfit (without_places p.before) p.last p.unfit.token p.runs p.stops (without_places p.later, f, subst P words h)

-- ---- the three laws

passes_filter : (text : List ℕ) (f : Filter) → IsFilter 0 (tokens_of text) f → Passes start (placed_tokens text) ⊎ Stops start (placed_tokens text)
    → read_tokens (length text) start (placed_tokens text) ≡ Ok (postfix f)
passes_filter text f h (inl p) =
    let same : p.last ≡ at [] behind (postfix f) = some_is _ _ (sym p.runs ∙ filter_runs (tokens_of text) f h) in
    p.reads (length text) ∙ ap (λ s. answer (length text) s) same
passes_filter text f h (inr p) = absurd (stops_no_filter text f p h)

-- each filter within the limit is read, as its steps
pub complete : (text : List ℕ) (f : Filter) → length text ≤ most_bytes → IsFilter 0 (tokens_of text) f → choice_read text ≡ Ok (postfix f)
complete text f few h = read_whole text few ∙ passes_filter text f h (either_way start (placed_tokens text))

-- a run that answers steps has come to the end of a filter
answer_ends : (end : ℕ) (stage : Stage) (frames : List Frame) (own steps : List Step) → answer end (at frames stage own) ≡ Ok steps
    → at frames stage own ≡ at [] behind steps
answer_ends end factor frames own steps e = absurd (cc)
answer_ends end (comparison field) frames own steps e = absurd (cc)
answer_ends end (value field by) frames own steps e = absurd (cc)
answer_ends end behind [] own steps e = let same : own ≡ steps = cc in ap (λ ss. at [] behind ss) same
answer_ends end behind (f ∷ frames) own steps e = absurd (cc)

steps_of_filter : (text : List ℕ) (steps : List Step) → length text ≤ most_bytes → choice_read text ≡ Ok steps
    → Passes start (placed_tokens text) ⊎ Stops start (placed_tokens text) → IsOf (tokens_of text) steps
steps_of_filter text steps few e (inl p) =
    let ends = answer_ends (length text) p.last.stage p.last.frames p.last.steps steps (sym (p.reads (length text)) ∙ sym (read_whole text few) ∙ e) in
    run_is_filter (tokens_of text) steps (p.runs ∙ ap (λ s. Some s) ends)
steps_of_filter text steps few e (inr p) =
    let both : Err p.unfit.place ≡ Ok steps = sym (p.reads (length text)) ∙ sym (read_whole text few) ∙ e in absurd (cc)

-- what is read is a filter within the limit, as its steps
pub record IsRead (text : List ℕ) (steps : List Step) : Type 0 where
  pub few : length text ≤ most_bytes
  pub of : IsOf (tokens_of text) steps

read_within : (text : List ℕ) (steps : List Step) → choice_read text ≡ Ok steps → (choice_read text ≡ Err most_bytes) ⊎ (length text ≤ most_bytes)
    → IsRead text steps
read_within text steps e (inl long) = let both : Err most_bytes ≡ Ok steps = sym long ∙ e in absurd (cc)
read_within text steps e (inr few) = record { few = few; of = steps_of_filter text steps few e (either_way start (placed_tokens text)) }

pub sound : (text : List ℕ) (steps : List Step) → choice_read text ≡ Ok steps → IsRead text steps
sound text steps e = read_within text steps e (too_long text _ refl)

-- tokens are of one filter at most
pub one_filter : (tokens : List Token) (f g : Filter) → IsFilter 0 tokens f → IsFilter 0 tokens g → f ≡ g
one_filter tokens f g h k =
    let same : at [] behind (postfix f) ≡ at [] behind (postfix g) = some_is _ _ (sym (filter_runs tokens f h) ∙ filter_runs tokens g k) in
    one_tree f g (ap (λ s. s.steps) same)

-- a run that answers a fault ends too early
fault_is_end : (end place : ℕ) (o : Option (List Step)) → option_map_or (λ steps. Ok steps) o (Err end) ≡ Err place → place ≡ end
fault_is_end end place None e = cc
fault_is_end end place (Some steps) e = absurd (cc)

fault_place : (text : List ℕ) (place : ℕ) → length text ≤ most_bytes → choice_read text ≡ Err place
    → Passes start (placed_tokens text) ⊎ Stops start (placed_tokens text) → IsFaultPlace text place
fault_place text place few e (inl p) = inr (record {
  there = fault_is_end (length text) place (finished p.last.stage p.last.frames p.last.steps)
      (sym (p.reads (length text)) ∙ sym (read_whole text few) ∙ e);
  fits = run_can_go_on (tokens_of text) p.last p.runs;
  short = λ f h. let both : Ok (postfix f) ≡ Err place = sym (complete text f few h) ∙ e in cc;
})
fault_place text place few e (inr p) = inl (record {
  before = p.before;
  unfit = p.unfit;
  later = p.later;
  all = p.all;
  there = let both : Err p.unfit.place ≡ Err place = sym (p.reads (length text)) ∙ sym (read_whole text few) ∙ e in cc;
  fits = run_can_go_on (without_places p.before) p.last p.runs;
  stops = stop_is_unfit (without_places p.before) p.last p.unfit.token p.runs p.stops;
})

-- the place of a fault is where the text leaves all filters
pub faults : (text : List ℕ) (place : ℕ) → length text ≤ most_bytes → choice_read text ≡ Err place → IsFaultPlace text place
faults text place few e = fault_place text place few e (either_way start (placed_tokens text))

-- a longer text has its own fault
pub long : (text : List ℕ) → most_bytes < length text → choice_read text ≡ Err most_bytes
unfolding choice_read
long text h = let over : nat_lt 4096 (length text) ≡ true = grind (arith, nat_tests) in rw over refl
