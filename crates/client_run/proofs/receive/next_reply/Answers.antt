use Rattle.std.proofs.Common.{inl, arith}
use Rattle.std.proofs.lemmas.Result.{err_from_is_err_and}
use Rattle.http_front.proofs.ReadLemmas.{TakesIn-further}
use Rattle.client_replies.proofs.ReplyLemmas.{begun_short}
use Rattle.client_run.proofs.ReceiveLemmas.{malformed_held, begun_held}
use Rattle.client_run.proofs.receive.next_reply.Goals as goal

pub returns-in-Malformed-clause-err : goal.returns-in-Malformed-clause-err
returns-in-Malformed-clause-err g c = inl (malformed_held c.view.ensures c.in-Malformed.is c.in_ok-answer.ensures.reading)

pub returns-in_err-read_more-clause-held : goal.returns-in_err-read_more-clause-held
returns-in_err-read_more-clause-held g c =
    let p = err_from_is_err_and c.from_residual-in_err-read_more.result c.from_residual-in_err-read_more.ensures.1 in
    rw p.1 (TakesIn-further c.loop-answer.invariant.takes c.read_more.ensures.takes)

pub loop-answer-smaller : goal.loop-answer-smaller
loop-answer-smaller g c =
    let begun = begun_held c.view.ensures c.in-Incomplete.is c.in_ok-answer.ensures.reading in
    omega (arith, begun_short begun, c.in_ok-read_more.ensures.more c.if-not-branch.false)
