use Rattle.machine_laws.proofs.StepKept.{run-keeps}
use Rattle.machine_laws.proofs.laws.a_run_keeps_the_facts.Goals as goal

pub returns : goal.returns
returns c = run-keeps
