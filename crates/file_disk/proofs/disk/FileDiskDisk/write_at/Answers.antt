use Rattle.std.proofs.Common.{length}
use Rattle.file_disk.proofs.Anything.{anything_follows}
use Rattle.file_disk.proofs.disk.FileDiskDisk.write_at.Goals as goal

pub returns-in-Ok-clause-crash : goal.returns-in-Ok-clause-crash
returns-in-Ok-clause-crash c = anything_follows c.args.place (length c.args.bytes.now)

pub returns-in-Err-clause-crash : goal.returns-in-Err-clause-crash
returns-in-Err-clause-crash c = anything_follows c.args.place (length c.args.bytes.now)
