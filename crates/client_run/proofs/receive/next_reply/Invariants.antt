use Rattle.std.proofs.Common.{◌≤◌, ◌-◌, ◌+◌, length}
use Rattle.client_replies.specs.Limits.{max_head, max_body}
use Rattle.http_front.specs.Held.{TakesIn}
use Rattle.client_run.proofs.receive.next_reply.Given as goal

abbrev pub invariant-loop-answer : goal.invariant-loop-answer
invariant-loop-answer g l = record {
  takes : TakesIn l.fn.inbox l.inbox (g.S.Source.left l.fn.source) (g.S.Source.left l.source);
  later : g.S.Source.failures l.fn.source ≤ g.S.Source.failures l.source;
}

abbrev pub decreases-loop-answer : goal.decreases-loop-answer
decreases-loop-answer g l = max_head + max_body - length l.inbox
