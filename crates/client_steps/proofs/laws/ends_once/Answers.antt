use Rattle.client_steps.proofs.RunLemmas.{once}
use Rattle.client_steps.proofs.laws.ends_once.Goals as goal

pub returns : goal.returns
returns c = once
