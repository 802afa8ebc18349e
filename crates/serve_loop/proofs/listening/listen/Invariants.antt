use Rattle.std.proofs.Common.{[]}
use Rattle.gates.specs.Gates.{seen}
use Rattle.gates.specs.rest_answers.specs.Links.{outlet}
use Rattle.serve_loop.specs.Listening.{Hears, event_world, stage_at}
use Rattle.serve_loop.specs.Sources.{feed}
use Rattle.serve_loop.proofs.listening.listen.Given as goal

-- so far the session did what it had to, and it goes on
abbrev pub invariant-rounds : goal.invariant-rounds
invariant-rounds g l = Hears l.terms l.filter []
    (event_world (stage_at l.fn.at l.fn.held.items)
    (feed g.S.Source.left g.S.Source.ended g.S.Source.failures g.S.Source.at_once l.fn.source)
    (seen g.G.Gate.contents g.G.Gate.turned g.G.Gate.idled l.fn.gate)
    (outlet g.K.Sink.held g.K.Sink.failures l.fn.sink))
    (event_world (stage_at l.next l.held.items)
    (feed g.S.Source.left g.S.Source.ended g.S.Source.failures g.S.Source.at_once l.source)
    (seen g.G.Gate.contents g.G.Gate.turned g.G.Gate.idled l.gate)
    (outlet g.K.Sink.held g.K.Sink.failures l.sink))
