use Rattle.tests_rows.proofs.Computed.{host_holds}
use Rattle.tests_rows.proofs.laws.host_by_example.Goals as goal

pub returns : goal.returns
returns c = host_holds
