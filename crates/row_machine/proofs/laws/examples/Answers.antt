use Rattle.row_machine.proofs.Computed.{are_worked}
use Rattle.row_machine.proofs.laws.examples.Goals as goal

pub returns : goal.returns
returns c = are_worked
