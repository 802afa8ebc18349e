use Rattle.serial_steps.specs.Steps.{hosted, serial_world}
use Rattle.serial_steps.proofs.Making.{SoFar}
use Rattle.serial_steps.proofs.serial.SerialDaemon.make_steps.Given as goal

-- as many steps were made as there were turns
abbrev pub invariant-loop-made : goal.invariant-loop-made
invariant-loop-made g l = SoFar (λ s. Unit {0})
    (serial_world l.fn.self (g.R.Keeper.store l.fn.keeper) (hosted g.H.Host.contents g.H.Host.failures l.fn.host) (g.C.Clock.readings l.fn.clock))
    (serial_world l.self (g.R.Keeper.store l.keeper) (hosted g.H.Host.contents g.H.Host.failures l.host) (g.C.Clock.readings l.clock))
    l.made
