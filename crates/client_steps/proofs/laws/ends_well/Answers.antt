use Rattle.client_steps.proofs.GoodRuns.{ends_well}
use Rattle.client_steps.proofs.laws.ends_well.Goals as goal

pub returns : goal.returns
returns c = ends_well
