use Rattle.serial_steps.specs.Steps.{hosted}
use Rattle.serial_run.specs.Worlds.{inlet, outlet, outside, session_world}
use Rattle.serial_run.proofs.Served.{ServesSoFar}
use Rattle.serial_run.proofs.session_loop.serve.Given as goal

-- as many requests were served as there were turns, and none of them was the last on its connection
abbrev pub invariant-loop-done : goal.invariant-loop-done
invariant-loop-done g l = ServesSoFar l.terms l.pace
    (session_world l.fn.buffer (outside (inlet g.S.Source.left g.S.Source.ended g.S.Source.failures l.fn.source)
    (outlet g.K.Sink.held g.K.Sink.failures l.fn.sink) (g.R.Keeper.store l.fn.keeper)
    (hosted g.H.Host.contents g.H.Host.failures l.fn.host) (g.C.Clock.readings l.fn.clock)) l.fn.service)
    (session_world l.buffer (outside (inlet g.S.Source.left g.S.Source.ended g.S.Source.failures l.source)
    (outlet g.K.Sink.held g.K.Sink.failures l.sink) (g.R.Keeper.store l.keeper)
    (hosted g.H.Host.contents g.H.Host.failures l.host) (g.C.Clock.readings l.clock)) l.service)
    l.done
