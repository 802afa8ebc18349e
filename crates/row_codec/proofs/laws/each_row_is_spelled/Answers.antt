use Rattle.std.proofs.Common.{refl}
use Rattle.row_codec.proofs.laws.each_row_is_spelled.Goals as goal

pub returns : goal.returns
returns c = λ r is. record { row = is; entry = refl }
