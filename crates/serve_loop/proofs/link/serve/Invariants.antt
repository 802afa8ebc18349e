use Rattle.gates.specs.rest_answers.specs.Links.{inlet, outlet}
use Rattle.gates.specs.Gates.{seen}
use Rattle.serve_loop.specs.Serving.{link_world}
use Rattle.serve_loop.proofs.Linking.{ServesSoFar}
use Rattle.serve_loop.proofs.link.serve.Given as goal

-- so far requests were served, and none of them was the last on its connection
abbrev pub invariant-loop : goal.invariant-loop
invariant-loop g l = ServesSoFar l.terms
    (link_world l.fn.buffer (inlet g.S.Source.left g.S.Source.ended g.S.Source.failures l.fn.source)
    (outlet g.K.Sink.held g.K.Sink.failures l.fn.sink) (seen g.G.Gate.contents g.G.Gate.turned g.G.Gate.idled l.fn.gate)
    (g.C.Clock.readings l.fn.clock))
    (link_world l.buffer (inlet g.S.Source.left g.S.Source.ended g.S.Source.failures l.source)
    (outlet g.K.Sink.held g.K.Sink.failures l.sink) (seen g.G.Gate.contents g.G.Gate.turned g.G.Gate.idled l.gate)
    (g.C.Clock.readings l.clock))
