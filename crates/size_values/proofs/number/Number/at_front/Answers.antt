use Rattle.std.proofs.Common.{◌∙◌, sym, arith, below_more}
use Rattle.size_values.proofs.Runs.{number-next, number-ends, number-whole}
use Rattle.size_values.proofs.number.Number.at_front.Goals as goal

pub returns-then-not-is_ascii_digit-clause-number : goal.returns-then-not-is_ascii_digit-clause-number
returns-then-not-is_ascii_digit-clause-number c =
    number-ends c.args.text.now c.loop-len.len c.loop-len.value (omega arith) c.loop-len.invariant.digits
    (λ _. sym c.is_ascii_digit.ensures.value ∙ c.if-not-is_ascii_digit.true) c.loop-len.invariant.value

pub loop-len-preserved : goal.loop-len-preserved
loop-len-preserved c =
    let digit = sym c.is_ascii_digit.ensures.value ∙ c.if-not-is_ascii_digit.false in
    let next = number-next c.args.text.now c.loop-len.len c.loop-len.value c.loop-len-test.true digit c.loop-len.invariant.value in
    record {
      value = cc;
      digits = below_more _ _ c.loop-len.invariant.digits digit;
    }

pub returns-clause-number : goal.returns-clause-number
returns-clause-number c = number-whole c.args.text.now c.loop-len.len c.loop-len.value (omega arith) c.loop-len.invariant.digits c.loop-len.invariant.value
