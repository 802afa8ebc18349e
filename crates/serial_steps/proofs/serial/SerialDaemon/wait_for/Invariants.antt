use Rattle.serial_steps.specs.Steps.{hosted, serial_world}
use Rattle.serial_steps.proofs.Making.{EndsSoon, IsLive}
use Rattle.serial_steps.proofs.serial.SerialDaemon.wait_for.Given as goal

-- as many steps were made as there were turns, and no more are left than turns
abbrev pub invariant-loop-made : goal.invariant-loop-made
invariant-loop-made g l = EndsSoon (IsLive l.number)
    (serial_world l.fn.self (g.R.Keeper.store l.fn.keeper) (hosted g.H.Host.contents g.H.Host.failures l.fn.host) (g.C.Clock.readings l.fn.clock))
    (serial_world l.self (g.R.Keeper.store l.keeper) (hosted g.H.Host.contents g.H.Host.failures l.host) (g.C.Clock.readings l.clock))
    l.made
