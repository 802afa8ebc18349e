-- One step of a filter more.
use Rattle.std.proofs.Common.{◌≡◌, ℕ, ◌+◌, ◌<◌, Bool, true, false, List, [], ◌∷◌, length, drop, get_or, Some, None, refl, sym, ap, ◌∙◌, cond, ◌≤◌}
use Rattle.std.proofs.lemmas.List.{at_drop_more, drop_all}
use Rattle.std.specs.Option.{option_map_or}
use Rattle.filter_texts.specs.Meaning.{run, only_truth, holds_for}
use Rattle.filter_texts.specs.declared.choice.Step.{Step}
use Rattle.filter_texts.specs.declared.choice.Step.TheVariants as step
use Rattle.filter_texts.specs.declared.choice.Test.{Test}
use Rattle.list_filter.specs.Taking.{stepped}

-- the steps are taken one after the other, and where one finds too few truths, none is left
pub run_step : (tells : Test → Bool) (s : Step) (steps : List Step) (truths : List Bool) → run tells (s ∷ steps) truths ≡ option_map_or (run tells steps) (stepped tells s truths) []
unfolding run
run_step tells (step.Test test) steps truths = refl
run_step tells step.Not steps [] = refl
run_step tells step.Not steps (a ∷ truths) = refl
run_step tells step.And steps [] = refl
run_step tells step.And steps (b ∷ []) = refl
run_step tells step.And steps (b ∷ a ∷ truths) = refl
run_step tells step.Or steps [] = refl
run_step tells step.Or steps (b ∷ []) = refl
run_step tells step.Or steps (b ∷ a ∷ truths) = refl

module _ (tells : Test → Bool) (steps all : List Step) (i : ℕ) (truths : List Bool) (same : run tells (drop i steps) truths ≡ run tells steps []) where
  next : (s : Step) → i < length steps → s ≡ get_or steps i s → run tells (drop i steps) truths ≡ option_map_or (run tells (drop (i + 1) steps)) (stepped tells s truths) []
  next s within is =
      at_drop_more (λ left. run tells left truths) steps i s within
      ∙ ap (λ t. run tells (t ∷ drop (i + 1) steps) truths) (sym is)
      ∙ run_step tells s (drop (i + 1) steps) truths

  -- the step found as many truths as it needs
  pub went : (s : Step) (new : List Bool) (going : Bool) → i < length steps → s ≡ get_or steps i s → stepped tells s truths ≡ cond going (Some new) None → going ≡ true
      → run tells (drop (i + 1) steps) new ≡ run tells steps []
  went s new going within is step_is goes =
      ap (λ o. option_map_or (run tells (drop (i + 1) steps)) o []) (sym (step_is ∙ ap (λ b. cond b (Some new) None) goes))
      ∙ sym (next s within is) ∙ same

  -- the step found too few of them
  pub stuck : (s : Step) (new : List Bool) (going : Bool) → i < length steps → s ≡ get_or steps i s → stepped tells s truths ≡ cond going (Some new) None → going ≡ false → steps ≡ all
      → false ≡ holds_for tells all
  stuck s new going within is step_is stays whole =
      ap only_truth
      (ap (λ o. option_map_or (run tells (drop (i + 1) steps)) o []) (sym (step_is ∙ ap (λ b. cond b (Some new) None) stays))
      ∙ sym (next s within is) ∙ same ∙ ap (λ ss. run tells ss []) whole)

  -- all steps were taken
  pub over : (taken : Bool) → length steps ≤ i → taken ≡ only_truth truths → steps ≡ all → taken ≡ holds_for tells all
  unfolding run
  over taken past is whole =
      is ∙ ap only_truth (ap (λ left. run tells left truths) (sym (drop_all i steps past)) ∙ same ∙ ap (λ ss. run tells ss []) whole)
