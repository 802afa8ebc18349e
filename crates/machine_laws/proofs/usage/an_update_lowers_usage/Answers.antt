use Rattle.machine_laws.proofs.LoweredUsage.{updates-lower}
use Rattle.machine_laws.proofs.usage.an_update_lowers_usage.Goals as goal

pub returns : goal.returns
returns c = updates-lower
