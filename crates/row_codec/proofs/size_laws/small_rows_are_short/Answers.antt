use Rattle.row_codec.proofs.ShortParts.{short-parts}
use Rattle.row_codec.proofs.size_laws.small_rows_are_short.Goals as goal

pub returns : goal.returns
returns c = short-parts
