use Rattle.row_machine.proofs.Running.{ends-once}
use Rattle.row_machine.proofs.laws.each_operation_ends_once.Goals as goal

pub returns : goal.returns
returns c = ends-once
