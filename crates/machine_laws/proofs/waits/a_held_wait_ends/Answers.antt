use Rattle.machine_laws.proofs.WaitsEnding.{waits-end}
use Rattle.machine_laws.proofs.waits.a_held_wait_ends.Goals as goal

pub returns : goal.returns
returns c = waits-end
