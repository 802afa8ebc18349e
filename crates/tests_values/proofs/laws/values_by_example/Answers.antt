use Rattle.tests_values.proofs.Computed.{values_hold}
use Rattle.tests_values.proofs.laws.values_by_example.Goals as goal

pub returns : goal.returns
returns c = values_hold
