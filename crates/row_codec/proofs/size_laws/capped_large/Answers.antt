use Rattle.row_codec.proofs.Sums.{capped-lt}
use Rattle.row_codec.proofs.size_laws.capped_large.Goals as goal

pub returns : goal.returns
returns c = capped-lt
