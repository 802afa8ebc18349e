use Rattle.tests_rows.proofs.Computed.{states_hold}
use Rattle.tests_rows.proofs.laws.states_by_example.Goals as goal

pub returns : goal.returns
returns c = states_hold
