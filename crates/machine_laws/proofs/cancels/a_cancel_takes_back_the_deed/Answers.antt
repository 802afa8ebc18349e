use Rattle.machine_laws.proofs.CancelsGoOn.{cancelling-goes}
use Rattle.machine_laws.proofs.cancels.a_cancel_takes_back_the_deed.Goals as goal

pub returns : goal.returns
returns c = cancelling-goes
