use Rattle.gates.proofs.Awaiting.{nothing_missed}
use Rattle.gates.proofs.laws.bells_miss_nothing.Goals as goal

pub returns : goal.returns
returns c = nothing_missed
