use Rattle.serve_loop.proofs.Working.{idles}
use Rattle.serve_loop.proofs.worker.idle.Goals as goal

pub returns : goal.returns
returns g c = λ host clock. idles host clock c.idle.ensures.contents c.idle.ensures.turned c.idle.ensures.idled
