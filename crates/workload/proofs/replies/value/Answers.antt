use Rattle.std.proofs.Common.{take, arith, ◌+◌, ◌*◌, ◌∙◌, ap, sym}
use Rattle.std.specs.Str.Parse.{digits_value}
use Rattle.std.proofs.lemmas.Int.Digits.{digits_value_more}
use Rattle.std.proofs.lemmas.Str.Parse.{digit_at}
use Rattle.workload.proofs.Digits.{value-below, digit-value}
use Rattle.workload.proofs.replies.value.Goals as goal

pub overflow_mul-value : goal.overflow_mul-value
overflow_mul-value c = omega (arith, value-below c.args.digits.now c.loop-digit.digit-index c.requires.digits (omega arith))

pub overflow_sub-digit : goal.overflow_sub-digit
overflow_sub-digit c = (digit_at c.args.digits.now c.loop-digit.digit-index c.requires.digits c.loop-digit-test.true).0

pub overflow_add-value : goal.overflow_add-value
overflow_add-value c =
    omega (arith, value-below c.args.digits.now c.loop-digit.digit-index c.requires.digits (omega arith), digit_at c.args.digits.now c.loop-digit.digit-index c.requires.digits c.loop-digit-test.true)

pub loop-digit-preserved : goal.loop-digit-preserved
loop-digit-preserved c =
    ap (λ v. v * 10 + c.from.result) c.loop-digit.invariant
    ∙ ap (λ d. digits_value 10 (take c.loop-digit.digit-index c.args.digits.now) * 10 + d)
    (c.from.ensures ∙ sym (digit-value c.args.digits.now c.loop-digit.digit-index c.requires.digits c.loop-digit-test.true))
    ∙ sym (digits_value_more 10 c.args.digits.now c.loop-digit.digit-index c.loop-digit-test.true)
