use Rattle.machine_laws.proofs.StepKept.{new-run-keeps}
use Rattle.machine_laws.proofs.laws.a_new_server_keeps_the_facts.Goals as goal

pub returns : goal.returns
returns c = new-run-keeps
