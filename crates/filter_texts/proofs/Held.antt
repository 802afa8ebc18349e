-- What has been read is the front of a filter.
use Rattle.std.proofs.Common.{◌≡◌, ℕ, ◌<◌, nat_lt, Bool, true, false, cond, List, [], ◌∷◌, ◌++◌, Option, Some, None, refl, sym, ap, subst, ◌∙◌, arith, append_assoc, append-nil}
use Rattle.std.specs.Prelude.{codes}
use Rattle.std.specs.Option.{option_and_then, option_map}
use Rattle.std.specs.Str.{bytes_eq}
use Rattle.std.proofs.lemmas.Bool.Decides.{nat_tests}
use Rattle.std.proofs.lemmas.Slice.Eq.{bytes_eq-Decides}
use Rattle.filter_texts.specs.declared.choice.Comparison.{Comparison}
use Rattle.filter_texts.specs.declared.choice.Comparison.TheVariants.{Equal, Unequal}
use Rattle.filter_texts.specs.declared.choice.Test.{Test}
use Rattle.filter_texts.specs.declared.choice.Step.{Step}
use Rattle.filter_texts.specs.declared.choice.Step.TheVariants as step
use Rattle.filter_texts.specs.declared.reader.Frame.{Frame}
use Rattle.filter_texts.specs.declared.reader.Frame.TheVariants as frame
use Rattle.filter_texts.specs.Tokens.{Token, opening, closing, quoted, word, unclosed, value_in}
use Rattle.filter_texts.specs.Grammar.{Filter, test, negation, both, either, comparison_word, most_nested, IsFilter, IsFactor, one, joined_and, joined_or, compared, negated, grouped}
use Rattle.filter_texts.specs.Meaning.{postfix}
use Rattle.filter_texts.specs.Reading.{Stage, factor, comparison, value, behind, State, depth, ended, nested, tested, comparison_in, joiner_in, advance}
use Rattle.filter_texts.proofs.Runs.{goes}
use Rattle.filter_texts.proofs.Complete.{IsBase, at, ended_base, depth_opening, depth_not, depth_and, depth_or, ends_not, ends_and, ends_or, grouped_steps}

-- the tokens stand in the frames, and have these steps
abbrev pub Held : List Frame → List Token → List Step → Type 0
Held [] tokens steps = (tokens ≡ []) × (steps ≡ [])
Held (frame.Opening ∷ frames) tokens steps =
    (front : List Token) × (depth frames < most_nested) × (tokens ≡ front ++ opening ∷ []) × Held frames front steps
Held (frame.Not ∷ frames) tokens steps =
    (front : List Token) × (depth frames < most_nested) × (tokens ≡ front ++ word (codes "not") ∷ []) × Held frames front steps
Held (frame.And ∷ frames) tokens steps =
    (front : List Token) × (last : List Token) × (prior : List Step) × (f : Filter) × IsBase frames × IsFilter (depth frames) last f
    × (tokens ≡ front ++ (last ++ word (codes "and") ∷ [])) × (steps ≡ prior ++ postfix f) × Held frames front prior
Held (frame.Or ∷ frames) tokens steps =
    (front : List Token) × (last : List Token) × (prior : List Step) × (f : Filter) × IsBase frames × IsFilter (depth frames) last f
    × (tokens ≡ front ++ (last ++ word (codes "or") ∷ [])) × (steps ≡ prior ++ postfix f) × Held frames front prior

-- behind a factor there is a filter in its frames
pub record IsBehind (frames : List Frame) (tokens : List Token) (steps : List Step) : Type 0 where
  pub front : List Token
  pub last : List Token
  pub prior : List Step
  pub f : Filter
  pub base : IsBase frames
  pub is : IsFilter (depth frames) last f
  pub tokens_are : tokens ≡ front ++ last
  pub steps_are : steps ≡ prior ++ postfix f
  pub held : Held frames front prior

-- a field has been read, or a field and how it is compared
pub record IsField (frames : List Frame) (name : List ℕ) (more : List Token) (tokens : List Token) (steps : List Step) : Type 0 where
  pub front : List Token
  pub field : bytes_eq name (codes "not") ≡ false
  pub tokens_are : tokens ≡ front ++ word name ∷ more
  pub held : Held frames front steps

abbrev pub Reached : Stage → List Frame → List Token → List Step → Type 0
Reached factor frames tokens steps = Held frames tokens steps
Reached (comparison name) frames tokens steps = IsField frames name [] tokens steps
Reached (value name by) frames tokens steps = IsField frames name (word (comparison_word by) ∷ []) tokens steps
Reached behind frames tokens steps = IsBehind frames tokens steps

abbrev pub Reaches : List Token → State → Type 0
Reaches tokens s = Reached s.stage s.frames tokens s.steps

-- ---- a factor ends

filter_at : (d e : ℕ) (tokens : List Token) (f : Filter) → d ≡ e → IsFilter d tokens f → IsFilter e tokens f
filter_at d e tokens f same h = let P : ℕ → Type 0 = λ n. IsFilter n tokens f in subst P same h

factor_at : (d e : ℕ) (tokens : List Token) (f : Filter) → d ≡ e → IsFactor d tokens f → IsFactor e tokens f
factor_at d e tokens f same h = let P : ℕ → Type 0 = λ n. IsFactor n tokens f in subst P same h

-- where the frames begin a filter of their own, the factor is that filter
closes_base : (frames : List Frame) (front us : List Token) (steps : List Step) (f : Filter) → IsBase frames
    → Held frames front steps → IsFilter (depth frames) us f
    → Reaches (front ++ us) (ended frames (steps ++ postfix f))
closes_base frames front us steps f base h is =
    let P : State → Type 0 = λ s. Reaches (front ++ us) s in
    subst P (sym (ended_base frames (steps ++ postfix f) base)) (record {
      front = front;
      last = us;
      prior = steps;
      f = f;
      base = base;
      is = is;
      tokens_are = refl;
      steps_are = refl;
      held = h;
    })

joined : (frames : List Frame) (front last us tokens : List Token) (prior steps : List Step) (f g h : Filter) (sign : List ℕ) (own : Step)
    → IsBase frames → Held frames front prior → IsFilter (depth frames) (last ++ word sign ∷ us) h
    → postfix h ≡ postfix f ++ postfix g ++ own ∷ []
    → tokens ≡ front ++ (last ++ word sign ∷ []) → steps ≡ prior ++ postfix f
    → Reaches (tokens ++ us) (ended frames (steps ++ postfix g ++ own ∷ []))
joined frames front last us tokens prior steps f g h sign own base held is made ts ss =
    let words : front ++ (last ++ word sign ∷ us) ≡ tokens ++ us =
    sym (ap (λ xs. xs ++ us) ts ∙ append_assoc front (last ++ word sign ∷ []) us ∙ ap (λ xs. front ++ xs) (append_assoc last (word sign ∷ []) us)) in
    let own_steps : prior ++ postfix h ≡ steps ++ postfix g ++ own ∷ [] =
    ap (λ xs. prior ++ xs) made ∙ sym (grouped_steps prior (postfix f) (postfix g) (own ∷ [])) ∙ ap (λ xs. xs ++ postfix g ++ own ∷ []) (sym ss) in
    let P : List Token → Type 0 = λ xs. Reaches xs (ended frames (prior ++ postfix h)) in
    let Q : List Step → Type 0 = λ xs. Reaches (tokens ++ us) (ended frames xs) in
    subst Q own_steps (subst P words (closes_base frames front (last ++ word sign ∷ us) prior h base held is))

pub closes : (frames : List Frame) (tokens us : List Token) (steps : List Step) (f : Filter) → Held frames tokens steps
    → IsFactor (depth frames) us f → Reaches (tokens ++ us) (ended frames (steps ++ postfix f))
closes [] tokens us steps f h is = closes_base [] tokens us steps f tt h (one is)
closes (frame.Opening ∷ frames) tokens us steps f h is = closes_base (frame.Opening ∷ frames) tokens us steps f tt h (one is)
closes (frame.Not ∷ frames) tokens us steps f (front, low, ts, h) is =
    let words : front ++ word (codes "not") ∷ us ≡ tokens ++ us =
    sym (ap (λ xs. xs ++ us) ts ∙ append_assoc front (word (codes "not") ∷ []) us) in
    let own_steps : ended frames (steps ++ (postfix f ++ step.Not ∷ [])) ≡ ended (frame.Not ∷ frames) (steps ++ postfix f) =
    ap (λ xs. ended frames xs) (sym (append_assoc steps (postfix f) (step.Not ∷ []))) ∙ sym (ends_not frames (steps ++ postfix f)) in
    let P : List Token → Type 0 = λ xs. Reaches xs (ended frames (steps ++ (postfix f ++ step.Not ∷ []))) in
    let Q : State → Type 0 = λ s. Reaches (tokens ++ us) s in
    subst Q own_steps (subst P words (closes frames front (word (codes "not") ∷ us) steps (negation f) h
    (negated low (factor_at _ _ us f (depth_not frames) is))))
closes (frame.And ∷ frames) tokens us steps g (front, last, prior, f, base, left, ts, ss, h) is =
    let Q : State → Type 0 = λ s. Reaches (tokens ++ us) s in
    subst Q (sym (ends_and frames (steps ++ postfix g)))
    (joined frames front last us tokens prior steps f g (both f g) (codes "and") step.And base h
    (joined_and left (factor_at _ _ us g (depth_and frames) is)) refl ts ss)
closes (frame.Or ∷ frames) tokens us steps g (front, last, prior, f, base, left, ts, ss, h) is =
    let Q : State → Type 0 = λ s. Reaches (tokens ++ us) s in
    subst Q (sym (ends_or frames (steps ++ postfix g)))
    (joined frames front last us tokens prior steps f g (either f g) (codes "or") step.Or base h
    (joined_or left (factor_at _ _ us g (depth_or frames) is)) refl ts ss)

-- ---- one token more

taken : (b : Bool) (x y : State) → cond b (Some x) None ≡ Some y → (b ≡ true) × (x ≡ y)
taken true x y e = (refl, cc)
taken false x y e = absurd (cc)

below : (n : ℕ) → nat_lt n 64 ≡ true → n < 64
below n e = grind (arith, nat_tests)

same_bytes : (xs ys : List ℕ) → bytes_eq xs ys ≡ true → xs ≡ ys
same_bytes xs ys e = (bytes_eq-Decides xs ys).0 e

along : (tokens : List Token) (s t : State) → s ≡ t → Reaches tokens s → Reaches tokens t
along tokens s t e h = let P : State → Type 0 = λ x. Reaches tokens x in subst P e h

from_opening : (frames : List Frame) (tokens : List Token) (steps : List Step) (t : State) → Held frames tokens steps
    → nested frame.Opening (at frames factor steps) ≡ Some t → Reaches (tokens ++ opening ∷ []) t
from_opening frames tokens steps t h e =
    let p = taken _ _ t e in
    along (tokens ++ opening ∷ []) _ t p.1 (tokens, below (depth frames) p.0, refl, h)

from_not : (frames : List Frame) (tokens : List Token) (steps : List Step) (t : State) → Held frames tokens steps
    → nested frame.Not (at frames factor steps) ≡ Some t → Reaches (tokens ++ word (codes "not") ∷ []) t
from_not frames tokens steps t h e =
    let p = taken _ _ t e in
    along (tokens ++ word (codes "not") ∷ []) _ t p.1 (tokens, below (depth frames) p.0, refl, h)

from_word : (frames : List Frame) (tokens : List Token) (steps : List Step) (t : State) (name : List ℕ) (b : Bool)
    → bytes_eq name (codes "not") ≡ b → Held frames tokens steps
    → cond b (nested frame.Not (at frames factor steps)) (Some (at frames (comparison name) steps)) ≡ Some t
    → Reaches (tokens ++ word name ∷ []) t
from_word frames tokens steps t name true is h e =
    let P : List ℕ → Type 0 = λ xs. Reaches (tokens ++ word xs ∷ []) t in
    subst P (sym (same_bytes name (codes "not") is)) (from_not frames tokens steps t h e)
from_word frames tokens steps t name false is h e =
    let same : at frames (comparison name) steps ≡ t = cc in
    along (tokens ++ word name ∷ []) _ t same (record { front = tokens; field = is; tokens_are = refl; held = h })

from_factor : (frames : List Frame) (tokens : List Token) (steps : List Step) (token : Token) (t : State) → Held frames tokens steps
    → advance (at frames factor steps) token ≡ Some t → Reaches (tokens ++ token ∷ []) t
unfolding advance
from_factor frames tokens steps opening t h e = from_opening frames tokens steps t h e
from_factor frames tokens steps closing t h e = absurd (cc)
from_factor frames tokens steps (quoted bytes) t h e = absurd (cc)
from_factor frames tokens steps (word name) t h e = from_word frames tokens steps t name (bytes_eq name (codes "not")) refl h e
from_factor frames tokens steps unclosed t h e = absurd (cc)

-- a word that names a comparison is its word
named : (name : List ℕ) (by : Comparison) → comparison_in name ≡ Some by → name ≡ comparison_word by
named name by e = equal (bytes_eq name (codes "eq")) refl e
  where
    unequal : (b : Bool) → bytes_eq name (codes "ne") ≡ b → cond b (Some Unequal) None ≡ Some by → name ≡ comparison_word by
    unequal true is e = let same : Unequal ≡ by = cc in same_bytes name (codes "ne") is ∙ ap comparison_word same
    unequal false is e = absurd (cc)

    equal : (b : Bool) → bytes_eq name (codes "eq") ≡ b → cond b (Some Equal) (cond (bytes_eq name (codes "ne")) (Some Unequal) None) ≡ Some by
        → name ≡ comparison_word by
    equal true is e = let same : Equal ≡ by = cc in same_bytes name (codes "eq") is ∙ ap comparison_word same
    equal false is e = unequal (bytes_eq name (codes "ne")) refl e

from_named : (frames : List Frame) (tokens : List Token) (steps : List Step) (field name : List ℕ) (t : State) (o : Option Comparison)
    → comparison_in name ≡ o → IsField frames field [] tokens steps
    → option_map (λ by. at frames (value field by) steps) o ≡ Some t → Reaches (tokens ++ word name ∷ []) t
from_named frames tokens steps field name t None is h e = absurd (cc)
from_named frames tokens steps field name t (Some by) is h e =
    let same : at frames (value field by) steps ≡ t = cc in
    along (tokens ++ word name ∷ []) _ t same (record {
      front = h.front;
      field = h.field;
      tokens_are = ap (λ xs. xs ++ word name ∷ []) h.tokens_are ∙ append_assoc h.front (word field ∷ []) (word name ∷ [])
          ∙ ap (λ xs. h.front ++ (word field ∷ word xs ∷ [])) (named name by is);
      held = h.held;
    })

from_comparison : (frames : List Frame) (tokens : List Token) (steps : List Step) (field : List ℕ) (token : Token) (t : State)
    → IsField frames field [] tokens steps → advance (at frames (comparison field) steps) token ≡ Some t → Reaches (tokens ++ token ∷ []) t
unfolding advance
from_comparison frames tokens steps field opening t h e = absurd (cc)
from_comparison frames tokens steps field closing t h e = absurd (cc)
from_comparison frames tokens steps field (quoted bytes) t h e = absurd (cc)
from_comparison frames tokens steps field (word name) t h e = from_named frames tokens steps field name t (comparison_in name) refl h e
from_comparison frames tokens steps field unclosed t h e = absurd (cc)

from_tested : (frames : List Frame) (tokens : List Token) (steps : List Step) (field : List ℕ) (by : Comparison) (token : Token) (t : State)
    (o : Option (List ℕ)) → value_in token ≡ o → IsField frames field (word (comparison_word by) ∷ []) tokens steps
    → option_map (tested (at frames (value field by) steps) field by) o ≡ Some t → Reaches (tokens ++ token ∷ []) t
from_tested frames tokens steps field by token t None is h e = absurd (cc)
from_tested frames tokens steps field by token t (Some bytes) is h e =
    let this : Test = record { field = field; comparison = by; value = bytes } in
    let same : ended frames (steps ++ step.Test this ∷ []) ≡ t = cc in
    let words : h.front ++ (word field ∷ word (comparison_word by) ∷ token ∷ []) ≡ tokens ++ token ∷ [] =
    sym (ap (λ xs. xs ++ token ∷ []) h.tokens_are ∙ append_assoc h.front (word field ∷ word (comparison_word by) ∷ []) (token ∷ [])) in
    let P : List Token → Type 0 = λ xs. Reaches xs t in
    subst P words (along _ _ t same
    (closes frames h.front (word field ∷ word (comparison_word by) ∷ token ∷ []) steps (test this) h.held (compared this h.field is)))

from_value : (frames : List Frame) (tokens : List Token) (steps : List Step) (field : List ℕ) (by : Comparison) (token : Token) (t : State)
    → IsField frames field (word (comparison_word by) ∷ []) tokens steps → advance (at frames (value field by) steps) token ≡ Some t
    → Reaches (tokens ++ token ∷ []) t
unfolding advance
from_value frames tokens steps field by token t h e = from_tested frames tokens steps field by token t (value_in token) refl h e

-- a parenthesis ends the filter that it holds
from_closing : (frames : List Frame) (tokens : List Token) (steps : List Step) (t : State) → IsBehind frames tokens steps
    → advance (at frames behind steps) closing ≡ Some t → Reaches (tokens ++ closing ∷ []) t
unfolding advance
from_closing [] tokens steps t h e = absurd (cc)
from_closing (frame.Opening ∷ frames) tokens steps t h e = shut h.held
  where
    same : ended frames steps ≡ t
    same = cc

    shut : Held (frame.Opening ∷ frames) h.front h.prior → Reaches (tokens ++ closing ∷ []) t
    shut (front, low, ts, k) =
        let inside : IsFactor (depth frames) (opening ∷ (h.last ++ closing ∷ [])) h.f = grouped low (filter_at _ _ h.last h.f (depth_opening frames) h.is) in
        let words : front ++ (opening ∷ (h.last ++ closing ∷ [])) ≡ tokens ++ closing ∷ [] =
        sym (ap (λ xs. xs ++ closing ∷ []) (h.tokens_are ∙ ap (λ xs. xs ++ h.last) ts)
        ∙ append_assoc (front ++ opening ∷ []) h.last (closing ∷ []) ∙ append_assoc front (opening ∷ []) (h.last ++ closing ∷ [])) in
        let P : List Token → Type 0 = λ xs. Reaches xs t in
        subst P words (along _ _ t (ap (λ xs. ended frames xs) (sym h.steps_are) ∙ same)
        (closes frames front (opening ∷ (h.last ++ closing ∷ [])) h.prior h.f k inside))
from_closing (frame.Not ∷ frames) tokens steps t h e = absurd (cc)
from_closing (frame.And ∷ frames) tokens steps t h e = absurd (cc)
from_closing (frame.Or ∷ frames) tokens steps t h e = absurd (cc)

from_and : (frames : List Frame) (tokens : List Token) (steps : List Step) (name : List ℕ) (t : State) → IsBehind frames tokens steps
    → name ≡ codes "and" → at (frame.And ∷ frames) factor steps ≡ t → Reaches (tokens ++ word name ∷ []) t
from_and frames tokens steps name t h is same =
    along _ _ t same (
      h.front,
      h.last,
      h.prior,
      h.f,
      h.base,
      h.is,
      ap (λ xs. xs ++ word name ∷ []) h.tokens_are ∙ append_assoc h.front h.last (word name ∷ []) ∙ ap (λ xs. h.front ++ (h.last ++ word xs ∷ [])) is,
      h.steps_are,
      h.held,
    )

from_or : (frames : List Frame) (tokens : List Token) (steps : List Step) (name : List ℕ) (t : State) → IsBehind frames tokens steps
    → name ≡ codes "or" → at (frame.Or ∷ frames) factor steps ≡ t → Reaches (tokens ++ word name ∷ []) t
from_or frames tokens steps name t h is same =
    along _ _ t same (
      h.front,
      h.last,
      h.prior,
      h.f,
      h.base,
      h.is,
      ap (λ xs. xs ++ word name ∷ []) h.tokens_are ∙ append_assoc h.front h.last (word name ∷ []) ∙ ap (λ xs. h.front ++ (h.last ++ word xs ∷ [])) is,
      h.steps_are,
      h.held,
    )

from_joiner : (frames : List Frame) (tokens : List Token) (steps : List Step) (name : List ℕ) (t : State) → IsBehind frames tokens steps
    → option_map (λ joiner. at (joiner ∷ frames) factor steps) (joiner_in name) ≡ Some t → Reaches (tokens ++ word name ∷ []) t
from_joiner frames tokens steps name t h e = both_words (bytes_eq name (codes "and")) refl e
  where
    ors : (b : Bool) → bytes_eq name (codes "or") ≡ b
        → option_map (λ joiner. at (joiner ∷ frames) factor steps) (cond b (Some frame.Or) None) ≡ Some t → Reaches (tokens ++ word name ∷ []) t
    ors true is e = from_or frames tokens steps name t h (same_bytes name (codes "or") is) (cc)
    ors false is e = absurd (cc)

    both_words : (b : Bool) → bytes_eq name (codes "and") ≡ b
        → option_map (λ joiner. at (joiner ∷ frames) factor steps) (cond b (Some frame.And) (cond (bytes_eq name (codes "or")) (Some frame.Or) None)) ≡ Some t
        → Reaches (tokens ++ word name ∷ []) t
    both_words true is e = from_and frames tokens steps name t h (same_bytes name (codes "and") is) (cc)
    both_words false is e = ors (bytes_eq name (codes "or")) refl e

from_behind : (frames : List Frame) (tokens : List Token) (steps : List Step) (token : Token) (t : State) → IsBehind frames tokens steps
    → advance (at frames behind steps) token ≡ Some t → Reaches (tokens ++ token ∷ []) t
unfolding advance
from_behind frames tokens steps opening t h e = absurd (cc)
from_behind frames tokens steps closing t h e = from_closing frames tokens steps t h e
from_behind frames tokens steps (quoted bytes) t h e = absurd (cc)
from_behind frames tokens steps (word name) t h e = from_joiner frames tokens steps name t h e
from_behind frames tokens steps unclosed t h e = absurd (cc)

from_stage : (stage : Stage) (frames : List Frame) (tokens : List Token) (steps : List Step) (token : Token) (t : State)
    → Reached stage frames tokens steps → advance (at frames stage steps) token ≡ Some t → Reaches (tokens ++ token ∷ []) t
from_stage factor frames tokens steps token t h e = from_factor frames tokens steps token t h e
from_stage (comparison name) frames tokens steps token t h e = from_comparison frames tokens steps name token t h e
from_stage (value name by) frames tokens steps token t h e = from_value frames tokens steps name by token t h e
from_stage behind frames tokens steps token t h e = from_behind frames tokens steps token t h e

-- ---- whole runs

run_step : (front tokens : List Token) (s last : State) (token : Token) (o : Option State) → advance s token ≡ o → Reaches front s
    → option_and_then (λ next. goes next tokens) o ≡ Some last
    → ((n : State) → Reaches (front ++ token ∷ []) n → goes n tokens ≡ Some last → Reaches (front ++ token ∷ [] ++ tokens) last)
    → Reaches (front ++ token ∷ [] ++ tokens) last
run_step front tokens s last token None is h e later = absurd (cc)
run_step front tokens s last token (Some n) is h e later = later n (from_stage s.stage s.frames front s.steps token n h is) e

pub runs_reach : (front tokens : List Token) (s last : State) → Reaches front s → goes s tokens ≡ Some last → Reaches (front ++ tokens) last
runs_reach front [] s last h e =
    let same : s ≡ last = cc in
    let P : List Token → Type 0 = λ xs. Reaches xs last in
    subst P (sym (append-nil front)) (along front s last same h)
runs_reach front (token ∷ tokens) s last h e =
    let P : List Token → Type 0 = λ xs. Reaches xs last in
    subst P (append_assoc front (token ∷ []) tokens)
    (run_step front tokens s last token (advance s token) refl h e (λ n k g. runs_reach (front ++ token ∷ []) tokens n last k g))
