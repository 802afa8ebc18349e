use Rattle.serial_steps.proofs.Stepping.{take-steps}
use Rattle.serial_steps.proofs.worker.take_call.Goals as goal

pub returns : goal.returns
returns g c = take-steps c.take-answer.ensures c.now-moment.ensures.reading c.now-moment.ensures.early c.job_of.ensures
