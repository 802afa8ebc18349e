use Rattle.gates.proofs.Answering.{for_listener}
use Rattle.serve_loop.proofs.SessionParts.{asks_err, asks_ok}
use Rattle.serve_loop.proofs.listening.ask.Goals as goal

pub fetched_in-requires : goal.fetched_in-requires
fetched_in-requires g c = for_listener _ _ _ c.turn-given.ensures.may

pub returns-clause-ok : goal.returns-clause-ok
returns-clause-ok g c = asks_ok _ _ _ _ c.args.filter.now c.in_ok-filter.filter c.fetched_in.result c.in_ok-filter.ensures
    c.turn-given.ensures.contents c.turn-given.ensures.turned c.turn-given.ensures.idled c.fetched_in.ensures.ok

pub returns-clause-err : goal.returns-clause-err
returns-clause-err g c = asks_err _ _ _ _ c.args.filter.now c.in_ok-filter.filter c.fetched_in.result c.in_ok-filter.ensures
    c.turn-given.ensures.contents c.turn-given.ensures.turned c.turn-given.ensures.idled c.fetched_in.ensures.err
