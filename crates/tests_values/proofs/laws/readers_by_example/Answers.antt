use Rattle.tests_values.proofs.Computed.{readers_give}
use Rattle.tests_values.proofs.laws.readers_by_example.Goals as goal

pub returns : goal.returns
returns c = readers_give
