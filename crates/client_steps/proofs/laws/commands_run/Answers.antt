use Rattle.client_steps.proofs.CommandRuns.{runs}
use Rattle.client_steps.proofs.laws.commands_run.Goals as goal

pub returns : goal.returns
returns c = runs
