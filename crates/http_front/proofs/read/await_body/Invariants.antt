use Rattle.std.proofs.Common.{◌≡◌, ◌<◌, ◌⊎◌, ◌≤◌, ◌-◌, length}
use Rattle.http_front.specs.Held.{TakesIn}
use Rattle.http_front.proofs.read.await_body.Given as goal

abbrev pub invariant-loop-buffer : goal.invariant-loop-buffer
invariant-loop-buffer g l = record {
  takes : TakesIn l.fn.buffer l.buffer (g.S.Source.left l.fn.source) (g.S.Source.left l.source);
  ahead : (l.source ≡ l.fn.source) ⊎ (length l.fn.buffer < l.end);
  later : g.S.Source.failures l.fn.source ≤ g.S.Source.failures l.source;
}

abbrev pub decreases-loop-buffer : goal.decreases-loop-buffer
decreases-loop-buffer g l = l.end - length l.buffer
