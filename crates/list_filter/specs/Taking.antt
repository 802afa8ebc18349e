-- Which objects a filter takes.
use Rattle.std.specs.Prelude.{ℕ, Bool, false, not, ◌&&◌, ◌||◌, List, [], ◌∷◌, Option, Some, None}
use Rattle.std.specs.Option.{option_map_or}
use Rattle.std.specs.Str.{bytes_eq, str_eq_ignore_ascii_case}
use Rattle.serde_json.specs.Data.{Data}
use Rattle.filter_texts.specs.Meaning.{holds_for}
use Rattle.filter_texts.specs.declared.choice.Comparison.{Comparison}
use Rattle.filter_texts.specs.declared.choice.Comparison.TheVariants.{Equal, Unequal}
use Rattle.filter_texts.specs.declared.choice.Step.{Step}
use Rattle.filter_texts.specs.declared.choice.Step.TheVariants as step
use Rattle.filter_texts.specs.declared.choice.Test.{Test}
use Rattle.rest_json.specs.declared.terms.Dialect.{Dialect}
use Rattle.rest_json.specs.declared.terms.Dialect.TheVariants as dialect
use Rattle.list_filter.specs.Values.{value_of}

-- two texts are the same: byte by byte, or in the client's dialect without regard to the case of ASCII letters
abbrev pub is_same : Dialect → List ℕ → List ℕ → Bool
is_same dialect.Plain a b = bytes_eq a b
is_same dialect.Client a b = str_eq_ignore_ascii_case a b

-- a field has a value, and it is this one
abbrev pub has_value : Dialect → Option (List ℕ) → List ℕ → Bool
has_value dialect value wanted = option_map_or (λ found. is_same dialect found wanted) value false

-- what a comparison says where a field has the wanted value, and where it has another one or none
abbrev pub compared : Comparison → Bool → Bool
compared Equal has = has
compared Unequal has = not has

-- whether a test holds of an object
abbrev pub holds : Dialect → Data → Test → Bool
holds dialect shown test = compared test.comparison (has_value dialect (value_of shown test.field) test.value)

-- whether a filter takes an object
abbrev pub is_taken : Dialect → Data → List Step → Bool
is_taken dialect shown steps = holds_for (holds dialect shown) steps

-- the opposite of the uppermost truth in its place, where there is one
abbrev pub negated : List Bool → Option (List Bool)
negated [] = None
negated (a ∷ truths) = Some (not a ∷ truths)

-- one truth in the place of the two uppermost, where there are two
abbrev pub joined : (Bool → Bool → Bool) → List Bool → Option (List Bool)
joined join [] = None
joined join (b ∷ []) = None
joined join (b ∷ a ∷ truths) = Some (join a b ∷ truths)

-- what one step makes of a stack of truths, the uppermost first, where it finds enough of them
abbrev pub stepped : (Test → Bool) → Step → List Bool → Option (List Bool)
stepped tells (step.Test test) truths = Some (tells test ∷ truths)
stepped tells step.Not truths = negated truths
stepped tells step.And truths = joined (λ a b. a && b) truths
stepped tells step.Or truths = joined (λ a b. a || b) truths
