use Rattle.serve_loop.proofs.SessionParts.{idles_on}
use Rattle.serve_loop.proofs.listening.idle.Goals as goal

pub returns : goal.returns
returns g c = λ terms filter held source sink. idles_on held source sink c.args.next c.idle.ensures.contents
    c.idle.ensures.turned c.idle.ensures.idled
