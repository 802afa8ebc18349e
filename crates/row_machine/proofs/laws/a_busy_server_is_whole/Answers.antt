use Rattle.row_machine.proofs.Busy.{busy-whole}
use Rattle.row_machine.proofs.laws.a_busy_server_is_whole.Goals as goal

pub returns : goal.returns
returns c = busy-whole
