use Rattle.row_codec.proofs.Sums.{capped-le}
use Rattle.row_codec.proofs.size_laws.capped_small.Goals as goal

pub returns : goal.returns
returns c = capped-le
