use Rattle.std.proofs.Common.{sym, subst}
use Rattle.serial_steps.specs.Steps.{Step, Steps, hosted, serial, serial_world}
use Rattle.serial_steps.proofs.worker.go_on.Goals as goal

pub returns-in-None : goal.returns-in-None
returns-in-None g c =
    subst (λ hand. (s : Step) × Steps
    (serial_world (serial c.args.daemon.now hand) (g.R.Keeper.store c.args.keeper.now) (hosted g.H.Host.contents g.H.Host.failures c.args.host.now) (g.C.Clock.readings c.args.clock.now)) s
    (serial_world (serial c.take_call.new.daemon c.take_call.result) (g.R.Keeper.store c.args.keeper.now) (hosted g.H.Host.contents g.H.Host.failures c.args.host.now) (g.C.Clock.readings c.take_call.new.clock)))
    (sym c.in-None.is) (c.take_call.ensures (g.R.Keeper.store c.args.keeper.now) (hosted g.H.Host.contents g.H.Host.failures c.args.host.now))
