use Rattle.row_machine.proofs.Opened.{are_opened}
use Rattle.row_machine.proofs.laws.examples_of_opening.Goals as goal

pub returns : goal.returns
returns c = are_opened
