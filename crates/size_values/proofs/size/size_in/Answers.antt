use Rattle.std.proofs.Common.{◌∙◌, refl, sym}
use Rattle.size_values.proofs.Sizes.{size-empty, size-letter_first, size-strays, size-unknown, size-large, size-value}
use Rattle.size_values.proofs.size.size_in.Goals as goal

pub returns-then-is_empty : goal.returns-then-is_empty
returns-then-is_empty c = size-empty c.args.text.now (sym c.is_empty.ensures ∙ c.if-is_empty.true)

pub returns-then-number-eq0 : goal.returns-then-number-eq0
returns-then-number-eq0 c =
    size-letter_first c.args.text.now c.at_front-number.result c.at_front-number.ensures.number (sym c.is_empty.ensures ∙ c.if-is_empty.false)
    c.if-number-eq0.true

pub returns-then-letters-suffix : goal.returns-then-letters-suffix
returns-then-letters-suffix c =
    size-strays c.args.text.now c.at_front-number.result c.at_front-number.ensures.number (sym c.is_empty.ensures ∙ c.if-is_empty.false)
    c.if-number-eq0.false _ refl c.letters_len-letters.result c.letters_len-letters.ensures c.if-letters-suffix.true

pub returns-in_default : goal.returns-in_default
returns-in_default c =
    size-unknown c.args.text.now c.at_front-number.result c.at_front-number.ensures.number (sym c.is_empty.ensures ∙ c.if-is_empty.false)
    c.if-number-eq0.false _ refl c.letters_len-letters.result c.letters_len-letters.ensures c.if-letters-suffix.false (sym c.factor_of.ensures ∙ c.in_default.is)

pub returns-then-is_too_large : goal.returns-then-is_too_large
returns-then-is_too_large c =
    size-large c.args.text.now c.at_front-number.result c.at_front-number.ensures.number (sym c.is_empty.ensures ∙ c.if-is_empty.false)
    c.if-number-eq0.false _ refl c.letters_len-letters.result c.letters_len-letters.ensures c.if-letters-suffix.false
    c.in-Some.factor (sym c.factor_of.ensures ∙ c.in-Some.is) c.times-size.result c.times-size.ensures (sym c.is_too_large.ensures ∙ c.if-is_too_large.true)

pub returns : goal.returns
returns c =
    size-value c.args.text.now c.at_front-number.result c.at_front-number.ensures.number (sym c.is_empty.ensures ∙ c.if-is_empty.false)
    c.if-number-eq0.false _ refl c.letters_len-letters.result c.letters_len-letters.ensures c.if-letters-suffix.false
    c.in-Some.factor (sym c.factor_of.ensures ∙ c.in-Some.is) c.times-size.result c.times-size.ensures (sym c.is_too_large.ensures ∙ c.if-is_too_large.false)
