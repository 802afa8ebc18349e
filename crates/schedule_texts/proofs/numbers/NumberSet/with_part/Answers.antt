use Rattle.std.proofs.Common.{◌∙◌}
use Rattle.schedule_texts.specs.Numbers.{has}
use Rattle.schedule_texts.proofs.Sets.{one_on}
use Rattle.schedule_texts.proofs.numbers.NumberSet.with_part.Goals as goal

pub loop-number-preserved : goal.loop-number-preserved
loop-number-preserved c n =
    c.with_number_of-numbers.ensures n
    ∙ one_on c.args.part c.loop-number.number n (has c.args.self n) (has c.loop-number.numbers n) (c.loop-number.invariant n)
