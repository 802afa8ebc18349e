use Rattle.serve_loop.proofs.Taking.{takes_nothing}
use Rattle.serve_loop.proofs.answering.send_answer.Goals as goal

pub returns-in-Nothing : goal.returns-in-Nothing
returns-in-Nothing g c = rw c.in-Nothing.is (takes_nothing _)
