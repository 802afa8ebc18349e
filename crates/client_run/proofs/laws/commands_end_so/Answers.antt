use Rattle.client_run.proofs.StatusLaws.{ends_so}
use Rattle.client_run.proofs.laws.commands_end_so.Goals as goal

pub returns : goal.returns
returns c = ends_so
