use Rattle.client_run.proofs.StatusLaws.{statuses_tell}
use Rattle.client_run.proofs.laws.statuses_tell.Goals as goal

pub returns : goal.returns
returns c = statuses_tell
