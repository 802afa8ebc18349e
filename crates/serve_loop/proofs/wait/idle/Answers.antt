use Rattle.serve_loop.proofs.Waiting.{idles}
use Rattle.serve_loop.proofs.wait.idle.Goals as goal

pub returns-clause-walks : goal.returns-clause-walks
returns-clause-walks g c = λ command op. idles {op = op} {made = c.args.idles} command c.is_late-late.result _
    c.idle-is_up.ensures.contents c.idle-is_up.ensures.turned c.idle-is_up.ensures.idled c.is_late-late.ensures
    c.idles_after.ensures.is c.goes_on.ensures.is
