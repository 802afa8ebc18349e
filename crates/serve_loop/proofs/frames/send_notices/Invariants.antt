use Rattle.std.proofs.Common.{take}
use Rattle.gates.specs.rest_answers.specs.Links.{Takes, outlet}
use Rattle.serve_loop.specs.Sessions.{frames_of}
use Rattle.serve_loop.proofs.frames.send_notices.Given as goal

-- so far the first events were sent
abbrev pub invariant-notices : goal.invariant-notices
invariant-notices g l = Takes (outlet g.K.Sink.held g.K.Sink.failures l.fn.sink)
    (outlet g.K.Sink.held g.K.Sink.failures l.sink) (frames_of l.terms (take l.notice-index l.notices))
