use Rattle.http_front.proofs.LeaveLemmas.{TakesIn-none, ahead-unfinished}
use Rattle.http_front.proofs.ReadLemmas.{next-stop}
use Rattle.http_front.proofs.leave.awaits_leave.Goals as goal

pub returns-then-begins_known-clause-takes : goal.returns-then-begins_known-clause-takes
returns-then-begins_known-clause-takes g c = TakesIn-none c.args.buffer.now (g.S.Source.left c.args.source.now)

pub returns-in-Ok-clause-ahead : goal.returns-in-Ok-clause-ahead
returns-in-Ok-clause-ahead g c = rw c.expects_leave.ensures.same (ahead-unfinished c.await_head.ensures.ahead)

pub returns-in-Err-clause-ahead : goal.returns-in-Err-clause-ahead
returns-in-Err-clause-ahead g c = ahead-unfinished c.await_head.ensures.ahead

pub returns-in-Err-clause-next : goal.returns-in-Err-clause-next
returns-in-Err-clause-next g c = next-stop _ c.in-Err.stop c.in-Err.ensures.takes c.in-Err.ensures.err
