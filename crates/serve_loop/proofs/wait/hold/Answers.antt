use Rattle.std.proofs.Common.{sym, ◌∙◌}
use Rattle.serve_loop.proofs.wait.hold.Goals as goal

pub returns : goal.returns
returns g c = λ command is. c.wait_and_show.ensures command (sym c.in-Some.is ∙ is)
