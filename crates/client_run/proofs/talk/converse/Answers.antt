use Rattle.std.proofs.Common.{length, arith}
use Rattle.std.proofs.lemmas.Result.{err_from_is_err_and}
use Rattle.client_steps.specs.Legs.{legs_of}
use Rattle.client_run.proofs.TalkLemmas.{talked_nothing, talked_halt, talked_ended, going_first, going_sent, within_sent, legs_some}
use Rattle.client_run.proofs.talk.converse.Goals as goal

pub returns-in_err-inbox-clause-talk : goal.returns-in_err-inbox-clause-talk
returns-in_err-inbox-clause-talk g c =
    let p = err_from_is_err_and c.from_residual.result c.from_residual.ensures.1 in
    rw (p.1, p.2) (talked_nothing c.args.words.now (g.S.Source.left c.args.source.now) (g.K.Sink.held c.args.sink.now) (g.S.Source.ended c.args.source.now))

pub returns-in_err-request-clause-talk : goal.returns-in_err-request-clause-talk
returns-in_err-request-clause-talk g c =
    let p = err_from_is_err_and c.from_residual-in_err-request.result c.from_residual-in_err-request.ensures.1 in
    rw (p.1, p.2) (talked_nothing c.args.words.now (g.S.Source.left c.args.source.now) (g.K.Sink.held c.args.sink.now) (g.S.Source.ended c.args.source.now))

pub loop-request-init : goal.loop-request-init
loop-request-init g c = record {
  going = rw (c.in_ok-inbox.ensures, c.in_ok-request.ensures)
      (going_first c.args.words.now (g.S.Source.left c.args.source.now) (g.K.Sink.held c.args.sink.now));
  within = legs_some c.args.words.now.asks;
  source_later = omega arith;
  sink_later = omega arith;
}

pub returns-in_err-following-clause-talk : goal.returns-in_err-following-clause-talk
returns-in_err-following-clause-talk g c =
    let p = err_from_is_err_and c.from_residual-in_err-following.result c.from_residual-in_err-following.ensures.1 in
    rw (p.1, p.2)
    (talked_halt c.take_turn.new.inbox (g.S.Source.ended c.take_turn.new.source) c.in_err-following.field-0.0 c.loop-request.invariant.going c.in_err-following.ensures.err)

pub loop-request-preserved : goal.loop-request-preserved
loop-request-preserved g c = record {
  going = going_sent c.in_ok-following.field-0 c.in-Send.following c.in-Send.is c.loop-request.invariant.going c.in_ok-following.ensures.ok;
  within = within_sent (length (legs_of c.args.words.now.asks)) c.loop-request.answered c.in_ok-following.field-0 c.in-Send.following c.in-Send.is c.in_ok-following.ensures.within;
  source_later = omega (arith, c.loop-request.invariant.source_later, c.take_turn.ensures.source_later);
  sink_later = omega (arith, c.loop-request.invariant.sink_later, c.take_turn.ensures.sink_later);
}

pub returns-in-End-clause-talk : goal.returns-in-End-clause-talk
returns-in-End-clause-talk g c =
    talked_ended (g.S.Source.ended c.take_turn.new.source) c.in_ok-following.field-0 (record { text = c.in-End.text; status = c.in-End.status }) c.in-End.is
    c.loop-request.invariant.going c.loop-request.invariant.within c.in_ok-following.ensures.ok
