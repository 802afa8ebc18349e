use Rattle.gates.proofs.Answering.{for_looker}
use Rattle.gates.proofs.laws.looks_are_answered.Goals as goal

pub returns : goal.returns
returns c = for_looker
