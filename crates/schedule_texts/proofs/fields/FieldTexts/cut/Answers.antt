use Rattle.std.proofs.Common.{arith, ap, length, List, ℕ}
use Rattle.std.proofs.lemmas.List.Splits.{length-slice_split}
use Rattle.schedule_texts.specs.Signs.{is_space}
use Rattle.schedule_texts.proofs.fields.FieldTexts.cut.Goals as goal

pub returns-in-Some-clause-none : goal.returns-in-Some-clause-none
returns-in-Some-clause-none c five =
    let more : List (List ℕ) → ℕ = λ texts. length texts in
    omega (
      arith,
      five,
      ap more c.in_ok-minutes.ensures.split,
      ap more c.in_ok-hours.ensures.split,
      ap more c.in_ok-days.ensures.split,
      ap more c.in_ok-months.ensures.split,
      ap more c.in-Some.ensures.split,
      length-slice_split is_space c.in-Some.field-0.1.now,
    )
