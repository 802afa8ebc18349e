use Rattle.machine_laws.proofs.WaitsEnding.{few-steps}
use Rattle.machine_laws.proofs.waits.a_held_wait_takes_few_steps.Goals as goal

pub returns : goal.returns
returns c = few-steps
