use Rattle.std.proofs.Common.{◌∙◌, sym}
use Rattle.std.specs.Char.{is_ascii_digit}
use Rattle.std.proofs.lemmas.List.Folds.{list_all_more}
use Rattle.schedule_texts.proofs.Texts.{number-next, both_true}
use Rattle.schedule_texts.proofs.part.number_in.Goals as goal

pub loop-digit-preserved : goal.loop-digit-preserved
loop-digit-preserved c =
    let digit = sym c.is_ascii_digit.ensures.value ∙ c.if-not-is_ascii_digit.false in
    let text = c.as_bytes-digits.result.now in
    let next = number-next text c.loop-digit.digit-index c.loop-digit.value c.loop-digit-test.true digit c.loop-digit.invariant.value in
    record {
      value = cc;
      digits = list_all_more is_ascii_digit text c.loop-digit.digit-index 0 c.loop-digit-test.true ∙ both_true c.loop-digit.invariant.digits digit;
    }
