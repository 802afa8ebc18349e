use Rattle.row_machine.proofs.Running.{runs-join}
use Rattle.row_machine.proofs.laws.runs_join.Goals as goal

pub returns : goal.returns
returns c = runs-join
