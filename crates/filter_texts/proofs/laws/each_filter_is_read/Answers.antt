use Rattle.filter_texts.proofs.Readings.{complete}
use Rattle.filter_texts.proofs.laws.each_filter_is_read.Goals as goal

pub returns : goal.returns
returns c = complete
