use Rattle.core_turns.proofs.Server.{server-told}
use Rattle.core_turns.proofs.laws.server_is_told.Goals as goal

pub returns : goal.returns
returns c = server-told
