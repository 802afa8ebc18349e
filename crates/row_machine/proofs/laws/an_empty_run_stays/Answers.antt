use Rattle.row_machine.proofs.Running.{empty-stays}
use Rattle.row_machine.proofs.laws.an_empty_run_stays.Goals as goal

pub returns : goal.returns
returns c = empty-stays
