use Rattle.client_steps.proofs.RunLemmas.{few}
use Rattle.client_steps.proofs.laws.is_answered_first.Goals as goal

pub returns : goal.returns
returns c = few
