use Rattle.tests_rows.proofs.Computed.{policies_hold}
use Rattle.tests_rows.proofs.laws.policies_by_example.Goals as goal

pub returns : goal.returns
returns c = policies_hold
