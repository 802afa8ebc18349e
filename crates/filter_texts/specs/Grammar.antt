-- The grammar of filters.
use Rattle.std.specs.Prelude.{ℕ, ◌+◌, ◌<◌, ◌≡◌, false, List, [], ◌∷◌, ◌++◌, codes, Some}
use Rattle.std.specs.Str.{bytes_eq}
use Rattle.filter_texts.specs.Tokens.{Token, opening, closing, word, value_in}
use Rattle.filter_texts.specs.declared.choice.Comparison.{Comparison}
use Rattle.filter_texts.specs.declared.choice.Comparison.TheVariants.{Equal, Unequal}
use Rattle.filter_texts.specs.declared.choice.Test.{Test}

-- a filter as a tree
pub data Filter : Type 0 where
  test : Test → Filter
  negation : Filter → Filter
  both : Filter → Filter → Filter
  either : Filter → Filter → Filter

-- `not` and parentheses nest at most so deep
abbrev pub most_nested : ℕ
most_nested = 64

-- the words for the comparisons
abbrev pub comparison_word : Comparison → List ℕ
comparison_word Equal = codes "eq"
comparison_word Unequal = codes "ne"

mutual
  -- The tokens are the filter, inside of so many of `not` and parentheses: factors joined from the left.
  pub data IsFilter : ℕ → List Token → Filter → Type 0 where
    one : {depth : ℕ} {tokens : List Token} {f : Filter} → IsFactor depth tokens f → IsFilter depth tokens f
    joined_and : {depth : ℕ} {front back : List Token} {f g : Filter} → IsFilter depth front f → IsFactor depth back g
        → IsFilter depth (front ++ word (codes "and") ∷ back) (both f g)
    joined_or : {depth : ℕ} {front back : List Token} {f g : Filter} → IsFilter depth front f → IsFactor depth back g
        → IsFilter depth (front ++ word (codes "or") ∷ back) (either f g)

  -- The tokens are one factor: a comparison of a field, `not` and a factor, or a filter in parentheses.
  pub data IsFactor : ℕ → List Token → Filter → Type 0 where
    compared : {depth : ℕ} {token : Token} (t : Test) → bytes_eq t.field (codes "not") ≡ false → value_in token ≡ Some t.value
        → IsFactor depth (word t.field ∷ word (comparison_word t.comparison) ∷ token ∷ []) (test t)
    negated : {depth : ℕ} {tokens : List Token} {f : Filter} → depth < most_nested → IsFactor (depth + 1) tokens f
        → IsFactor depth (word (codes "not") ∷ tokens) (negation f)
    grouped : {depth : ℕ} {tokens : List Token} {f : Filter} → depth < most_nested → IsFilter (depth + 1) tokens f
        → IsFactor depth (opening ∷ (tokens ++ closing ∷ [])) f
