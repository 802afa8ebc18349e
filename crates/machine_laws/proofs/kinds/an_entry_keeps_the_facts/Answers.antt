use Rattle.machine_laws.proofs.ChangeKinds.{entries-keep}
use Rattle.machine_laws.proofs.kinds.an_entry_keeps_the_facts.Goals as goal

pub returns : goal.returns
returns c = entries-keep
