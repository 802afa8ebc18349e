use Rattle.std.proofs.Common.{◌++◌}
use Rattle.serve_loop.specs.Frames.{accepting_head}
use Rattle.serve_loop.specs.declared.session.SessionEnd.TheVariants as end
use Rattle.serve_loop.proofs.SessionParts.{session_goes, session_refused, session_stops}
use Rattle.serve_loop.proofs.Taking.{front_broken, front_more, front_same}
use Rattle.serve_loop.proofs.session.event_session.Goals as goal

pub returns-in-Err : goal.returns-in-Err
returns-in-Err g c = session_refused c.args.terms c.args.key.now c.args.filter.now _ _ _ _ c.in-Err.ensures.err

pub returns-in-Whole : goal.returns-in-Whole
returns-in-Whole g c = session_goes c.in-Ok.ensures.ok c.in-Whole.ensures c.go_on_from.ensures

pub returns-in-WriteFault : goal.returns-in-WriteFault
returns-in-WriteFault g c = session_stops end.WriteFault c.in-Ok.ensures.ok
    (λ p t. (front_more t (front_broken c.in-WriteFault.ensures), c.in-WriteFault.ensures.rose))

pub returns-in-NoMemory : goal.returns-in-NoMemory
returns-in-NoMemory g c = session_stops end.NoMemory c.in-Ok.ensures.ok
    (λ p t. front_same (accepting_head c.args.key.now ++ t) c.in-NoMemory.ensures)
