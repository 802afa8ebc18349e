use Rattle.std.proofs.Common.{◌∙◌, sym}
use Rattle.size_values.proofs.Counts.{count-empty, count-strays, count-large, count-outside, count-value}
use Rattle.size_values.proofs.count.count_from_number.Goals as goal

pub returns-then-is_empty-clause-count : goal.returns-then-is_empty-clause-count
returns-then-is_empty-clause-count c = count-empty c.args.text.now c.args.least c.args.most (sym c.is_empty.ensures ∙ c.if-is_empty.true)

pub returns-then-number-text-clause-count : goal.returns-then-number-text-clause-count
returns-then-number-text-clause-count c =
    count-strays c.args.text.now c.args.least c.args.most c.args.number c.requires (sym c.is_empty.ensures ∙ c.if-is_empty.false) c.if-number-text.true

pub returns-then-is_too_large-clause-count : goal.returns-then-is_too_large-clause-count
returns-then-is_too_large-clause-count c =
    count-large c.args.text.now c.args.least c.args.most c.args.number c.requires (sym c.is_empty.ensures ∙ c.if-is_empty.false)
    c.if-number-text.false (sym c.is_too_large.ensures ∙ c.if-is_too_large.true)

pub returns-then-not-is_within-clause-count : goal.returns-then-not-is_within-clause-count
returns-then-not-is_within-clause-count c =
    count-outside c.args.text.now c.args.least c.args.most c.args.number c.requires (sym c.is_empty.ensures ∙ c.if-is_empty.false)
    c.if-number-text.false (sym c.is_too_large.ensures ∙ c.if-is_too_large.false) (sym c.is_within.ensures ∙ c.if-not-is_within.true)

pub returns-clause-count : goal.returns-clause-count
returns-clause-count c =
    count-value c.args.text.now c.args.least c.args.most c.args.number c.requires (sym c.is_empty.ensures ∙ c.if-is_empty.false)
    c.if-number-text.false (sym c.is_too_large.ensures ∙ c.if-is_too_large.false) (sym c.is_within.ensures ∙ c.if-not-is_within.false)
