use Rattle.std.proofs.Common.{◌≡◌, ◌⊎◌, ◌≤◌, ◌-◌, length, take}
use Rattle.http_heads.specs.Limits.{max_head}
use Rattle.http_heads.specs.Search.{HasSearched}
use Rattle.http_front.specs.Held.{TakesIn, IsHeadAwaited}
use Rattle.http_front.proofs.read.await_head.Given as goal

abbrev pub invariant-loop-len : goal.invariant-loop-len
invariant-loop-len g l = record {
  takes : TakesIn l.fn.buffer l.buffer (g.S.Source.left l.fn.source) (g.S.Source.left l.source);
  later : g.S.Source.failures l.fn.source ≤ g.S.Source.failures l.source;
  ahead : ((l.source ≡ l.fn.source) × (l.buffer ≡ l.fn.buffer)) ⊎ IsHeadAwaited l.fn.buffer;
  searched : HasSearched l.search (take max_head l.buffer);
}

abbrev pub decreases-loop-len : goal.decreases-loop-len
decreases-loop-len g l = max_head - length l.buffer
