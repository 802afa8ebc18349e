use Rattle.machine_laws.proofs.LoweredUsage.{successes-raise_nothing}
use Rattle.machine_laws.proofs.usage.no_success_raises_usage.Goals as goal

pub returns : goal.returns
returns c = successes-raise_nothing
