use Rattle.serial_run.proofs.Answering.{unrouted}
use Rattle.serial_run.proofs.asking.reply_to.Goals as goal

pub returns-in-Ok : goal.returns-in-Ok
returns-in-Ok g c = rw c.in-Ok.ensures.reads c.carry_out.ensures

pub returns-in-Err : goal.returns-in-Err
returns-in-Err g c = unrouted _ _ _ c.in-Err.ensures.reads
