use Rattle.core_turns.proofs.Turning.{nothing-collected}
use Rattle.core_turns.proofs.daemon.Daemon.look.Goals as goal

pub look-requires : goal.look-requires
look-requires c = record { quiet = c.self.invariant.quiet }

pub returns : goal.returns
returns c = λ store.
    rw (← c.self.view_is)
    (nothing-collected c.self.inside.hub c.self.invariant.quiet tt c.self.invariant.silent (c.look.ensures store))
