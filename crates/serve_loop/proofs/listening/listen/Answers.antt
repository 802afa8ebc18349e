use Rattle.serve_loop.proofs.SessionParts.{hears_then, hears_twice, none_heard}
use Rattle.serve_loop.proofs.listening.listen.Goals as goal

pub rounds-init : goal.rounds-init
rounds-init g c = none_heard _ _ _

pub returns-in-Over : goal.returns-in-Over
returns-in-Over g c = hears_then c.rounds.invariant c.in-Over.ensures

pub rounds-preserved : goal.rounds-preserved
rounds-preserved g c = hears_twice c.rounds.invariant c.in-At.ensures
