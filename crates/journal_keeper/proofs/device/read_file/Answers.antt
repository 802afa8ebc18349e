use Rattle.journal_keeper.proofs.Moments.{nothing}
use Rattle.journal_keeper.proofs.device.read_file.Goals as goal

pub returns-in_err-bytes-clause-quiet : goal.returns-in_err-bytes-clause-quiet
returns-in_err-bytes-clause-quiet g c = nothing (g.D.Disk.disk c.args.disk.now) c.requires.stays
