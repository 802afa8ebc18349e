use Rattle.serve_loop.proofs.Reaching.{asked_reaches, refused_memory}
use Rattle.serve_loop.proofs.reply.carry_out.Goals as goal

pub returns-in-Ok : goal.returns-in-Ok
returns-in-Ok g c = asked_reaches c.args.command c.ask.ensures

pub returns-in-Err : goal.returns-in-Err
returns-in-Err g c = refused_memory _ _ _
