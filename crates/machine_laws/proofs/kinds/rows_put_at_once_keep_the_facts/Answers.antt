use Rattle.size_values.specs.declared.kinds.ObjectKind.TheVariants as kind
use Rattle.machine_laws.proofs.ChangeKinds.{rows-keep}
use Rattle.machine_laws.proofs.kinds.rows_put_at_once_keep_the_facts.Goals as goal

pub returns-clause-projects : goal.returns-clause-projects
returns-clause-projects c = rows-keep kind.Project

pub returns-clause-profiles : goal.returns-clause-profiles
returns-clause-profiles c = rows-keep kind.Profile

pub returns-clause-networks : goal.returns-clause-networks
returns-clause-networks c = rows-keep kind.Network

pub returns-clause-pools : goal.returns-clause-pools
returns-clause-pools c = rows-keep kind.Pool

pub returns-clause-volumes : goal.returns-clause-volumes
returns-clause-volumes c = rows-keep kind.Volume

pub returns-clause-instances : goal.returns-clause-instances
returns-clause-instances c = rows-keep kind.Instance
