-- From each state there is a way to the end of a filter.
use Rattle.std.proofs.Common.{◌≡◌, ℕ, List, [], ◌∷◌, ◌++◌, Some, refl, sym, subst}
use Rattle.std.specs.Prelude.{codes}
use Rattle.filter_texts.specs.declared.choice.Comparison.{Comparison}
use Rattle.filter_texts.specs.declared.choice.Comparison.TheVariants.{Equal}
use Rattle.filter_texts.specs.declared.choice.Test.{Test}
use Rattle.filter_texts.specs.declared.choice.Step.{Step}
use Rattle.filter_texts.specs.declared.choice.Step.TheVariants as step
use Rattle.filter_texts.specs.declared.reader.Frame.{Frame}
use Rattle.filter_texts.specs.declared.reader.Frame.TheVariants as frame
use Rattle.filter_texts.specs.Tokens.{Token, closing, word}
use Rattle.filter_texts.specs.Reading.{Stage, factor, comparison, value, behind, State, ended}
use Rattle.filter_texts.proofs.Runs.{goes, goes_more}
use Rattle.filter_texts.proofs.Complete.{at, ended_base, ends_not, ends_and, ends_or, reads_field, reads_comparison, reads_value, reads_closing}
use Rattle.filter_texts.proofs.Held.{Reached}

-- tokens that lead to the end of a filter
pub record Ends (s : State) : Type 0 where
  pub more : List Token
  pub steps : List Step
  pub runs : goes s more ≡ Some (at [] behind steps)

ends_along : (s t : State) → s ≡ t → Ends s → Ends t
ends_along s t e h = let P : State → Type 0 = λ x. Ends x in subst P e h

closing_next : (frames : List Frame) (steps : List Step) → Ends (ended frames steps) → Ends (at (frame.Opening ∷ frames) behind steps)
closing_next frames steps h = record {
  more = closing ∷ h.more;
  steps = h.steps;
  runs = goes_more _ _ closing h.more _ (reads_closing frames steps) h.runs;
}

pub ended_ends : (frames : List Frame) (steps : List Step) → Ends (ended frames steps)
ended_ends [] steps = ends_along _ _ (sym (ended_base [] steps tt)) (record { more = []; steps = steps; runs = refl })
ended_ends (frame.Opening ∷ frames) steps =
    ends_along _ _ (sym (ended_base (frame.Opening ∷ frames) steps tt)) (closing_next frames steps (ended_ends frames steps))
ended_ends (frame.Not ∷ frames) steps = ends_along _ _ (sym (ends_not frames steps)) (ended_ends frames (steps ++ step.Not ∷ []))
ended_ends (frame.And ∷ frames) steps = ends_along _ _ (sym (ends_and frames steps)) (ended_ends frames (steps ++ step.And ∷ []))
ended_ends (frame.Or ∷ frames) steps = ends_along _ _ (sym (ends_or frames steps)) (ended_ends frames (steps ++ step.Or ∷ []))

abbrev a_test : List ℕ → Comparison → Test
a_test field by = record { field = field; comparison = by; value = codes "a" }

pub value_ends : (frames : List Frame) (steps : List Step) (field : List ℕ) (by : Comparison) → Ends (at frames (value field by) steps)
value_ends frames steps field by =
    let later = ended_ends frames (steps ++ step.Test (a_test field by) ∷ []) in
    record {
      more = word (codes "a") ∷ later.more;
      steps = later.steps;
      runs = goes_more _ _ (word (codes "a")) later.more _ (reads_value frames steps (a_test field by) (word (codes "a")) refl) later.runs;
    }

pub comparison_ends : (frames : List Frame) (steps : List Step) (field : List ℕ) → Ends (at frames (comparison field) steps)
comparison_ends frames steps field =
    let later = value_ends frames steps field Equal in
    record {
      more = word (codes "eq") ∷ later.more;
      steps = later.steps;
      runs = goes_more _ _ (word (codes "eq")) later.more _ (reads_comparison frames steps field Equal) later.runs;
    }

pub factor_ends : (frames : List Frame) (steps : List Step) → Ends (at frames factor steps)
factor_ends frames steps =
    let later = comparison_ends frames steps (codes "a") in
    record {
      more = word (codes "a") ∷ later.more;
      steps = later.steps;
      runs = goes_more _ _ (word (codes "a")) later.more _ (reads_field frames steps (codes "a") refl) later.runs;
    }

pub stage_ends : (stage : Stage) (frames : List Frame) (tokens : List Token) (steps : List Step) → Reached stage frames tokens steps
    → Ends (at frames stage steps)
stage_ends factor frames tokens steps h = factor_ends frames steps
stage_ends (comparison field) frames tokens steps h = comparison_ends frames steps field
stage_ends (value field by) frames tokens steps h = value_ends frames steps field by
stage_ends behind frames tokens steps h = ends_along _ _ (ended_base frames steps h.base) (ended_ends frames steps)
