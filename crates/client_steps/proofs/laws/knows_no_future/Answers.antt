use Rattle.client_steps.proofs.RunLemmas.{grown}
use Rattle.client_steps.proofs.laws.knows_no_future.Goals as goal

pub returns : goal.returns
returns c = grown
