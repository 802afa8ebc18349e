use Rattle.machine_laws.proofs.StepKept.{step-keeps}
use Rattle.machine_laws.proofs.laws.step_keeps_the_facts.Goals as goal

pub returns : goal.returns
returns c = step-keeps
