-- Words for examples.
use Rattle.std.specs.Prelude.{ℕ, List, ◌++◌, codes, replicate}
use Rattle.filter_texts.specs.declared.choice.Comparison.TheVariants.{Equal}
use Rattle.filter_texts.specs.declared.choice.Step.{Step}
use Rattle.filter_texts.specs.declared.choice.Step.TheVariants as step

-- `name eq` and a value
abbrev pub name_is : List ℕ → Step
name_is value = step.Test (record { field = codes "name"; comparison = Equal; value = value })

-- a comparison in so many parentheses
abbrev pub in_parentheses : ℕ → List ℕ
in_parentheses depth = replicate depth 40 ++ codes "a eq b" ++ replicate depth 41

abbrev pub a_is_b : Step
a_is_b = step.Test (record { field = codes "a"; comparison = Equal; value = codes "b" })
