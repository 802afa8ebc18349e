use Rattle.serve_loop.proofs.SessionParts.{asks_goes, asks_refused}
use Rattle.serve_loop.proofs.listening.ask_on.Goals as goal

pub returns-in-Ok : goal.returns-in-Ok
returns-in-Ok g c = λ held source. asks_goes c.args.terms c.args.filter.now c.args.cursor held c.in-Ok.fetched source _ _ _
    _ _ c.on_events.result c.in-Ok.ensures.ok (c.on_events.ensures c.args.filter.now held source)

pub returns-in-Err : goal.returns-in-Err
returns-in-Err g c = λ held source. asks_refused c.args.terms c.args.filter.now c.args.cursor held source _ _ _
    c.in-Err.ensures.err
