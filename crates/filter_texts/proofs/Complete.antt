-- The tokens of a filter are read as its steps.
use Rattle.std.proofs.Common.{◌≡◌, ℕ, ◌+◌, ◌<◌, nat_lt, true, false, cond, count_by, List, [], ◌∷◌, ◌++◌, Some, refl, ap, ◌∙◌, arith, append_assoc}
use Rattle.std.specs.Prelude.{codes}
use Rattle.std.specs.Option.{option_map}
use Rattle.std.specs.Str.{bytes_eq}
use Rattle.std.proofs.lemmas.Bool.Decides.{nat_tests}
use Rattle.std.proofs.lemmas.List.Sums.{sum_by-append}
use Rattle.filter_texts.specs.declared.choice.Comparison.{Comparison}
use Rattle.filter_texts.specs.declared.choice.Comparison.TheVariants.{Equal, Unequal}
use Rattle.filter_texts.specs.declared.choice.Test.{Test}
use Rattle.filter_texts.specs.declared.choice.Step.{Step}
use Rattle.filter_texts.specs.declared.choice.Step.TheVariants as step
use Rattle.filter_texts.specs.declared.reader.Frame.{Frame}
use Rattle.filter_texts.specs.declared.reader.Frame.TheVariants as frame
use Rattle.filter_texts.specs.Tokens.{Token, opening, closing, word, value_in}
use Rattle.filter_texts.specs.Grammar.{Filter, comparison_word, most_nested, IsFilter, IsFactor, one, joined_and, joined_or, compared, negated, grouped}
use Rattle.filter_texts.specs.Meaning.{postfix}
use Rattle.filter_texts.specs.Reading.{Stage, factor, comparison, value, behind, State, is_nested, depth, ended, tested, advance}
use Rattle.filter_texts.proofs.Runs.{goes, goes_on, goes_more}

-- a filter of its own begins here
abbrev pub IsBase : List Frame → Type 0
IsBase [] = Unit {0}
IsBase (frame.Opening ∷ frames) = Unit {0}
IsBase (frame.Not ∷ frames) = ⊥
IsBase (frame.And ∷ frames) = ⊥
IsBase (frame.Or ∷ frames) = ⊥

pub ended_base : (frames : List Frame) (steps : List Step) → IsBase frames
    → ended frames steps ≡ record { frames = frames; stage = behind; steps = steps }
unfolding ended
ended_base [] steps base = refl
ended_base (frame.Opening ∷ frames) steps base = refl
ended_base (frame.Not ∷ frames) steps base = absurd base
ended_base (frame.And ∷ frames) steps base = absurd base
ended_base (frame.Or ∷ frames) steps base = absurd base

depth_first : (f : Frame) (frames : List Frame) → depth (f ∷ frames) ≡ count_by is_nested (f ∷ []) + depth frames
depth_first f frames = sum_by-append (λ g. cond (is_nested g) 1 0) (f ∷ []) frames

pub depth_opening : (frames : List Frame) → depth (frame.Opening ∷ frames) ≡ depth frames + 1
depth_opening frames = omega (arith, depth_first frame.Opening frames)

pub depth_not : (frames : List Frame) → depth (frame.Not ∷ frames) ≡ depth frames + 1
depth_not frames = omega (arith, depth_first frame.Not frames)

pub depth_and : (frames : List Frame) → depth (frame.And ∷ frames) ≡ depth frames
depth_and frames = omega (arith, depth_first frame.And frames)

pub depth_or : (frames : List Frame) → depth (frame.Or ∷ frames) ≡ depth frames
depth_or frames = omega (arith, depth_first frame.Or frames)

less : (n d : ℕ) → n ≡ d → d < 64 → nat_lt n 64 ≡ true
less n d e h = grind (arith, nat_tests)

abbrev pub at : List Frame → Stage → List Step → State
at frames stage steps = record { frames = frames; stage = stage; steps = steps }

-- ---- one token

pub reads_not : (frames : List Frame) (steps : List Step) (d : ℕ) → depth frames ≡ d → d < most_nested
    → advance (at frames factor steps) (word (codes "not")) ≡ Some (at (frame.Not ∷ frames) factor steps)
unfolding advance
reads_not frames steps d e h = rw (less (depth frames) d e h) refl

pub reads_opening : (frames : List Frame) (steps : List Step) (d : ℕ) → depth frames ≡ d → d < most_nested
    → advance (at frames factor steps) opening ≡ Some (at (frame.Opening ∷ frames) factor steps)
unfolding advance
reads_opening frames steps d e h = rw (less (depth frames) d e h) refl

pub reads_field : (frames : List Frame) (steps : List Step) (name : List ℕ) → bytes_eq name (codes "not") ≡ false
    → advance (at frames factor steps) (word name) ≡ Some (at frames (comparison name) steps)
unfolding advance
reads_field frames steps name e = rw e refl

pub reads_comparison : (frames : List Frame) (steps : List Step) (name : List ℕ) (by : Comparison)
    → advance (at frames (comparison name) steps) (word (comparison_word by)) ≡ Some (at frames (value name by) steps)
unfolding advance
reads_comparison frames steps name Equal = refl
reads_comparison frames steps name Unequal = refl

pub reads_value : (frames : List Frame) (steps : List Step) (t : Test) (token : Token) → value_in token ≡ Some t.value
    → advance (at frames (value t.field t.comparison) steps) token ≡ Some (ended frames (steps ++ step.Test t ∷ []))
unfolding advance
reads_value frames steps t token e = ap (λ o. option_map (tested (at frames (value t.field t.comparison) steps) t.field t.comparison) o) e

pub reads_closing : (frames : List Frame) (steps : List Step)
    → advance (at (frame.Opening ∷ frames) behind steps) closing ≡ Some (ended frames steps)
unfolding advance
reads_closing frames steps = refl

pub reads_and : (frames : List Frame) (steps : List Step)
    → advance (at frames behind steps) (word (codes "and")) ≡ Some (at (frame.And ∷ frames) factor steps)
unfolding advance
reads_and frames steps = refl

pub reads_or : (frames : List Frame) (steps : List Step)
    → advance (at frames behind steps) (word (codes "or")) ≡ Some (at (frame.Or ∷ frames) factor steps)
unfolding advance
reads_or frames steps = refl

-- ---- what waited

pub ends_not : (frames : List Frame) (steps : List Step) → ended (frame.Not ∷ frames) steps ≡ ended frames (steps ++ step.Not ∷ [])
unfolding ended
ends_not frames steps = refl

pub ends_and : (frames : List Frame) (steps : List Step) → ended (frame.And ∷ frames) steps ≡ ended frames (steps ++ step.And ∷ [])
unfolding ended
ends_and frames steps = refl

pub ends_or : (frames : List Frame) (steps : List Step) → ended (frame.Or ∷ frames) steps ≡ ended frames (steps ++ step.Or ∷ [])
unfolding ended
ends_or frames steps = refl

-- the steps of two filters and of what joins them, grouped
pub grouped_steps : (xs ys zs ws : List Step) → xs ++ ys ++ zs ++ ws ≡ xs ++ (ys ++ zs ++ ws)
grouped_steps xs ys zs ws =
    ap (λ vs. vs ++ ws) (append_assoc xs ys zs) ∙ append_assoc xs (ys ++ zs) ws

-- ---- filters

mutual
  pub reads_factor : {d : ℕ} {tokens : List Token} {f : Filter} → IsFactor d tokens f → (frames : List Frame) (steps : List Step)
      → depth frames ≡ d → goes (at frames factor steps) tokens ≡ Some (ended frames (steps ++ postfix f))
  reads_factor (compared {token = token} t field given) frames steps e =
      goes_more _ _ _ (word (comparison_word t.comparison) ∷ token ∷ []) _ (reads_field frames steps t.field field)
      (goes_more _ _ _ (token ∷ []) _ (reads_comparison frames steps t.field t.comparison)
      (goes_more _ _ _ [] _ (reads_value frames steps t token given) refl))
  reads_factor (negated {f = f} low h) frames steps e =
      goes_more _ _ _ _ _ (reads_not frames steps _ e low)
      (reads_factor h (frame.Not ∷ frames) steps (depth_not frames ∙ ap (λ n. n + 1) e)
      ∙ ap (λ s. Some s) (ends_not frames (steps ++ postfix f) ∙ ap (λ ss. ended frames ss) (append_assoc steps (postfix f) (step.Not ∷ []))))
  reads_factor (grouped {f = f} low h) frames steps e =
      goes_more _ _ _ _ _ (reads_opening frames steps _ e low)
      (goes_on _ _ _ _ _ (reads_filter h (frame.Opening ∷ frames) steps tt (depth_opening frames ∙ ap (λ n. n + 1) e))
      (goes_more _ _ _ [] _ (reads_closing frames (steps ++ postfix f)) refl))

  pub reads_filter : {d : ℕ} {tokens : List Token} {f : Filter} → IsFilter d tokens f → (frames : List Frame) (steps : List Step)
      → IsBase frames → depth frames ≡ d → goes (at frames factor steps) tokens ≡ Some (at frames behind (steps ++ postfix f))
  reads_filter (one {f = f} h) frames steps base e =
      reads_factor h frames steps e ∙ ap (λ s. Some s) (ended_base frames (steps ++ postfix f) base)
  reads_filter (joined_and {f = f} {g = g} h k) frames steps base e =
      goes_on _ _ _ _ _ (reads_filter h frames steps base e)
      (goes_more _ _ _ _ _ (reads_and frames (steps ++ postfix f))
      (reads_factor k (frame.And ∷ frames) (steps ++ postfix f) (depth_and frames ∙ e)
      ∙ ap (λ s. Some s) (ends_and frames (steps ++ postfix f ++ postfix g)
      ∙ ended_base frames (steps ++ postfix f ++ postfix g ++ step.And ∷ []) base
      ∙ ap (λ ss. at frames behind ss) (grouped_steps steps (postfix f) (postfix g) (step.And ∷ [])))))
  reads_filter (joined_or {f = f} {g = g} h k) frames steps base e =
      goes_on _ _ _ _ _ (reads_filter h frames steps base e)
      (goes_more _ _ _ _ _ (reads_or frames (steps ++ postfix f))
      (reads_factor k (frame.Or ∷ frames) (steps ++ postfix f) (depth_or frames ∙ e)
      ∙ ap (λ s. Some s) (ends_or frames (steps ++ postfix f ++ postfix g)
      ∙ ended_base frames (steps ++ postfix f ++ postfix g ++ step.Or ∷ []) base
      ∙ ap (λ ss. at frames behind ss) (grouped_steps steps (postfix f) (postfix g) (step.Or ∷ [])))))
