use Rattle.serve_loop.proofs.Reaching.{unrouted}
use Rattle.serve_loop.proofs.reply.reply_to.Goals as goal

pub returns-in-Ok : goal.returns-in-Ok
returns-in-Ok g c = rw c.in-Ok.ensures.reads c.carry_out.ensures

pub returns-in-Err : goal.returns-in-Err
returns-in-Err g c = unrouted _ _ _ _ c.in-Err.ensures.reads
