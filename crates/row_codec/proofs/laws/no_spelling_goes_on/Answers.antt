use Rattle.row_codec.proofs.Alone.{entries_alone}
use Rattle.row_codec.proofs.laws.no_spelling_goes_on.Goals as goal

pub returns : goal.returns
returns c = entries_alone
