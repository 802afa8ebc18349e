use Rattle.row_machine.proofs.Beginning.{new-whole}
use Rattle.row_machine.proofs.laws.a_new_server_is_whole.Goals as goal

pub returns : goal.returns
returns c = new-whole
