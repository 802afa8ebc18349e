use Rattle.machine_laws.proofs.CancelsBegin.{running-cancelled}
use Rattle.machine_laws.proofs.cancels.a_running_operation_is_cancelled.Goals as goal

pub returns : goal.returns
returns c = running-cancelled
