use Rattle.std.proofs.Common.{arith}
use Rattle.serial_run.proofs.Served.{session_few}
use Rattle.serial_run.proofs.running.session.Goals as goal

pub returns : goal.returns
returns g c =
    let session = rw c.requires at c.serve-ends.ensures in
    record {
      held = c.serve-ends.new.buffer;
      few = session_few c.args.terms c.args.pace _ _ _ (omega arith) session;
      serial = c.serve-ends.new.service;
      session = session;
    }
