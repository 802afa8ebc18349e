use Rattle.gates.proofs.Answering.{for_taker}
use Rattle.gates.proofs.laws.calls_are_answered.Goals as goal

pub returns : goal.returns
returns c = for_taker
