use Rattle.row_codec.proofs.Entries.{read_as, not_damaged}
use Rattle.row_codec.proofs.laws.spelled_or_damaged.Goals as goal

pub returns-clause-spelled : goal.returns-clause-spelled
returns-clause-spelled c = read_as

pub returns-clause-damaged : goal.returns-clause-damaged
returns-clause-damaged c = not_damaged
