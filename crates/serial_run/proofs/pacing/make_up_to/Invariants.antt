use Rattle.serial_steps.specs.Steps.{hosted, serial_world}
use Rattle.serial_steps.proofs.Making.{IsBusy, SoFar}
use Rattle.serial_run.proofs.pacing.make_up_to.Given as goal

-- as many steps were made as there were turns, each while an operation was live
abbrev pub invariant-loop-made : goal.invariant-loop-made
invariant-loop-made g l = SoFar IsBusy
    (serial_world l.fn.daemon (g.R.Keeper.store l.fn.keeper) (hosted g.H.Host.contents g.H.Host.failures l.fn.host) (g.C.Clock.readings l.fn.clock))
    (serial_world l.daemon (g.R.Keeper.store l.keeper) (hosted g.H.Host.contents g.H.Host.failures l.host) (g.C.Clock.readings l.clock))
    l.made
