use Rattle.std.proofs.Common.{sym, ◌∙◌}
use Rattle.row_codec.proofs.Entries.{only_row}
use Rattle.row_codec.proofs.laws.one_spelling.Goals as goal

pub returns-clause-entries : goal.returns-clause-entries
returns-clause-entries c = λ r a b p q. p.entry ∙ sym q.entry

pub returns-clause-rows : goal.returns-clause-rows
returns-clause-rows c = only_row
