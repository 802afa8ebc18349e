use Rattle.serve_loop.proofs.Reaching.{refused_memory}
use Rattle.serve_loop.proofs.subscribing.look_for.Goals as goal

pub returns-in-Ok : goal.returns-in-Ok
returns-in-Ok g c = rw c.in-Ok.ensures.is at c.carry_out.ensures

pub returns-in-Err : goal.returns-in-Err
returns-in-Err g c = refused_memory _ _ _
