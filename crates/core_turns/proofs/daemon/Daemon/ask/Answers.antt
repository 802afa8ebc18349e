use Rattle.core_turns.proofs.Turning.{collected, stays-short, turn-whole}
use Rattle.core_turns.proofs.daemon.Daemon.ask.Goals as goal

pub collect_events-requires : goal.collect_events-requires
collect_events-requires g c =
    let own = c.self.invariant in
    record { short = stays-short c.self.inside.hub tt own.silent own.whole c.requires.served own.short c.ask-answer.ensures }

pub invariant_of-self : goal.invariant_of-self
invariant_of-self g c =
    let own = c.self.invariant in
    let turn = collected c.self.inside.hub tt own.silent c.collect_events.ensures.silent c.ask-answer.ensures c.collect_events.ensures.state in
    record {
      quiet = c.collect_events.ensures.untold;
      silent = c.collect_events.ensures.silent;
      whole = rw c.collect_events.ensures.told (turn-whole own.whole c.requires.served turn);
      short = rw c.collect_events.ensures.state (stays-short c.self.inside.hub tt own.silent own.whole c.requires.served own.short c.ask-answer.ensures);
    }

pub returns : goal.returns
returns g c =
    rw (c.collect_events.ensures.told, ← c.self.view_is)
    (collected c.self.inside.hub tt c.self.invariant.silent c.collect_events.ensures.silent c.ask-answer.ensures c.collect_events.ensures.state)
