use Rattle.row_machine.proofs.Running.{ended-stays}
use Rattle.row_machine.proofs.laws.an_ended_operation_stays.Goals as goal

pub returns : goal.returns
returns c = ended-stays
