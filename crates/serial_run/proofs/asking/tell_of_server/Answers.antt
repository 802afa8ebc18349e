use Rattle.std.proofs.Common.{refl}
use Rattle.serial_steps.specs.Steps.{serial_world}
use Rattle.serial_run.proofs.Answering.{server-replied}
use Rattle.serial_run.proofs.asking.tell_of_server.Goals as goal

pub returns : goal.returns
returns g c = λ store host.
    server-replied c.args.terms (serial_world c.args.daemon.now store host (g.C.Clock.readings c.args.clock.now))
    (serial_world c.args.daemon.now store host (g.C.Clock.readings c.now-moment.new.self))
    c.args.request.now c.server_answer.result c.now-moment.result c.requires.asked
    (c.server_is_told.ensures c.args.daemon.now.state store _ _) refl refl c.now-moment.ensures.reading c.now-moment.ensures.early
    (c.server_answer.ensures.text c.args.request.now c.requires.stays c.requires.by_get)
