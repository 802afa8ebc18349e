use Rattle.std.proofs.Common.{IfErr, Result, Ok, Err}
use Rattle.std.proofs.lemmas.Result.{err_from_is_err_and}
use Rattle.client_run.proofs.TalkLemmas.{halts_at_reply, halts_at_step}
use Rattle.client_run.proofs.talk.take_turn.Goals as goal

on_error : {T E : Type 0} (r : Result T E) {P Q : E → Type 0} → IfErr r P → ((e : E) → P e → Q e) → IfErr r Q
on_error (Ok value) h f = tt
on_error (Err e) h f = f e h

pub returns-in_err-answer-clause-err : goal.returns-in_err-answer-clause-err
returns-in_err-answer-clause-err g c =
    let p = err_from_is_err_and c.from_residual-in_err-answer.result c.from_residual-in_err-answer.ensures.1 in
    rw (p.1, p.2)
    (halts_at_reply (g.K.Sink.held c.args.sink.now) (g.K.Sink.held c.send.new.sink) c.args.request.now (g.S.Source.ended c.next_reply.new.source) c.in_err-answer.field-0.0 c.in_err-answer.ensures.held c.in_err-answer.ensures.err c.in_ok-send.ensures.ok)

pub returns-clause-err : goal.returns-clause-err
returns-clause-err g c =
    on_error c.follow.result c.follow.ensures.err
    (λ s is. halts_at_step (g.K.Sink.held c.args.sink.now) (g.K.Sink.held c.send.new.sink) c.args.request.now (g.S.Source.ended c.next_reply.new.source) s c.in_ok-answer.ensures.ok c.in_ok-send.ensures.ok is)
