-- What a filter means for an object, of which each test is true or false.
use Rattle.std.specs.Prelude.{Bool, false, not, ◌&&◌, ◌||◌, List, [], ◌∷◌, ◌++◌}
use Rattle.filter_texts.specs.Grammar.{Filter, test, negation, both, either}
use Rattle.filter_texts.specs.declared.choice.Test.{Test}
use Rattle.filter_texts.specs.declared.choice.Step.{Step}
use Rattle.filter_texts.specs.declared.choice.Step.TheVariants as step

-- whether the filter chooses the object
abbrev pub meaning : (Test → Bool) → Filter → Bool
meaning holds (test t) = holds t
meaning holds (negation f) = not (meaning holds f)
meaning holds (both f g) = meaning holds f && meaning holds g
meaning holds (either f g) = meaning holds f || meaning holds g

-- the steps of a filter: those of its parts, and then its own
abbrev pub postfix : Filter → List Step
postfix (test t) = step.Test t ∷ []
postfix (negation f) = postfix f ++ step.Not ∷ []
postfix (both f g) = postfix f ++ postfix g ++ step.And ∷ []
postfix (either f g) = postfix f ++ postfix g ++ step.Or ∷ []

-- The stack of truths after the steps, the uppermost first. Where a step finds too few of them, none is left.
unfoldable pub run : (Test → Bool) → List Step → List Bool → List Bool
run holds [] truths = truths
run holds (step.Test t ∷ steps) truths = run holds steps (holds t ∷ truths)
run holds (step.Not ∷ steps) (a ∷ truths) = run holds steps (not a ∷ truths)
run holds (step.And ∷ steps) (b ∷ a ∷ truths) = run holds steps ((a && b) ∷ truths)
run holds (step.Or ∷ steps) (b ∷ a ∷ truths) = run holds steps ((a || b) ∷ truths)
run holds steps truths = []

-- the one truth of a stack
abbrev pub only_truth : List Bool → Bool
only_truth (a ∷ []) = a
only_truth truths = false

-- whether steps choose the object: the one truth that they leave
abbrev pub holds_for : (Test → Bool) → List Step → Bool
holds_for holds steps = only_truth (run holds steps [])
