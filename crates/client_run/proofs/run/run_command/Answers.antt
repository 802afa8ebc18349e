use Rattle.client_run.proofs.SessionLemmas.{ran_halted}
use Rattle.client_run.proofs.run.run_command.Goals as goal

pub returns-in-Err : goal.returns-in-Err
returns-in-Err g c = rw c.course_of.ensures (ran_halted c.in-Err.stop c.in-Err.ensures.talk c.in-Err.ensures.fault)
