use Rattle.std.proofs.Common.{arith}
use Rattle.schedule_texts.proofs.Sets.{none_above}
use Rattle.schedule_texts.proofs.numbers.NumberSet.has.Goals as goal

pub returns-else-number-lt64 : goal.returns-else-number-lt64
returns-else-number-lt64 c = none_above c.args.self.now.bits c.args.number (omega arith) c.if-number-lt64.false
