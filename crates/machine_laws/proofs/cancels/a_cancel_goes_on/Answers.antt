use Rattle.machine_laws.proofs.CancelsGoOn.{cancelling-stays}
use Rattle.machine_laws.proofs.cancels.a_cancel_goes_on.Goals as goal

pub returns : goal.returns
returns c = cancelling-stays
