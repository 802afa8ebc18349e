use Rattle.std.proofs.Common.{ap}
use Rattle.start_faults.specs.core_rows.proofs.Opened.{opened-idle}
use Rattle.serial_run.proofs.service.Service.new.Goals as goal

pub of-requires : goal.of-requires
of-requires g c = record {
  idle =
      ap (λ k. k.live) (opened-idle c.in_ok-daemon.ensures.entries c.in_ok-daemon.daemon c.in_ok-daemon.ensures.opens);
}
