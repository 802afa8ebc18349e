use Rattle.gates.proofs.Answering.{for_listener}
use Rattle.gates.proofs.laws.events_are_answered.Goals as goal

pub returns : goal.returns
returns c = for_listener
