use Rattle.schedule_texts.proofs.Sets.{has_one_more}
use Rattle.schedule_texts.proofs.numbers.NumberSet.with.Goals as goal

pub returns : goal.returns
returns c n = has_one_more c.args.self.bits c.args.number n c.requires
