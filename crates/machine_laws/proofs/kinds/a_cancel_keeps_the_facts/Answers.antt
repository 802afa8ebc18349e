use Rattle.machine_laws.proofs.ChangeKinds.{cancels-keep}
use Rattle.machine_laws.proofs.kinds.a_cancel_keeps_the_facts.Goals as goal

pub returns : goal.returns
returns c = cancels-keep
