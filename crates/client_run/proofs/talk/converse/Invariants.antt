use Rattle.std.proofs.Common.{◌<◌, ◌≤◌, ◌-◌, length}
use Rattle.client_steps.specs.Legs.{legs_of}
use Rattle.client_run.specs.Talks.{Going}
use Rattle.client_run.proofs.talk.converse.Given as goal

abbrev pub invariant-loop-request : goal.invariant-loop-request
invariant-loop-request g l = record {
  going : Going l.words (g.S.Source.left l.fn.source) (g.S.Source.left l.source) (g.K.Sink.held l.fn.sink) (g.K.Sink.held l.sink) l.inbox l.answered l.request;
  within : l.answered < length (legs_of l.words.asks);
  source_later : g.S.Source.failures l.fn.source ≤ g.S.Source.failures l.source;
  sink_later : g.K.Sink.failures l.fn.sink ≤ g.K.Sink.failures l.sink;
}

abbrev pub decreases-loop-request : goal.decreases-loop-request
decreases-loop-request g l = length (legs_of l.words.asks) - l.answered
