use Rattle.row_machine.proofs.Faulty.{are_told}
use Rattle.row_machine.proofs.laws.examples_of_faults.Goals as goal

pub returns : goal.returns
returns c = are_told
