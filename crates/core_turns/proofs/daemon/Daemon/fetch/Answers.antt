use Rattle.core_turns.proofs.Turning.{fetch-turn, fetch-refused}
use Rattle.core_turns.proofs.daemon.Daemon.fetch.Goals as goal

pub returns-in-Ok : goal.returns-in-Ok
returns-in-Ok c = λ store.
    rw (← c.self.view_is)
    (fetch-turn c.self.inside.hub c.self.inside.estate.state store c.args.cursor c.args.filter.now c.in-Ok.fetched c.in-Ok.ensures)

pub returns-in-Err : goal.returns-in-Err
returns-in-Err c = λ store. fetch-refused c.args.self.now store c.args.cursor c.args.filter.now
