use Rattle.filter_texts.proofs.Readings.{one_filter}
use Rattle.filter_texts.proofs.laws.tokens_are_of_one_filter.Goals as goal

pub returns : goal.returns
returns c = one_filter
