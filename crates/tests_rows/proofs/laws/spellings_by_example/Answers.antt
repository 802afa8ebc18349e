use Rattle.tests_rows.proofs.Computed.{spellings_hold}
use Rattle.tests_rows.proofs.laws.spellings_by_example.Goals as goal

pub returns : goal.returns
returns c = spellings_hold
