use Rattle.std.proofs.Common.{length}
use Rattle.journal_keeper.proofs.Moments.{wrote, wrote_through}
use Rattle.journal_keeper.proofs.device.write_through.Goals as goal

pub returns-in-Err-NoMemory-clause-moments : goal.returns-in-Err-NoMemory-clause-moments
returns-in-Err-NoMemory-clause-moments g c = wrote (g.D.Disk.disk c.args.disk.now) (g.D.Disk.disk c.write_at.new.self) c.args.place (length c.args.bytes.now) (g.met.D.Disk.only_now c.args.disk.now) c.write_at.ensures.time c.write_at.ensures.crash

pub returns-in-Err-Why-clause-moments : goal.returns-in-Err-Why-clause-moments
returns-in-Err-Why-clause-moments g c = wrote (g.D.Disk.disk c.args.disk.now) (g.D.Disk.disk c.write_at.new.self) c.args.place (length c.args.bytes.now) (g.met.D.Disk.only_now c.args.disk.now) c.write_at.ensures.time c.write_at.ensures.crash

pub returns-in-Ok-sync-clause-moments : goal.returns-in-Ok-sync-clause-moments
returns-in-Ok-sync-clause-moments g c = wrote_through (g.D.Disk.disk c.args.disk.now) (g.D.Disk.disk c.write_at.new.self) c.args.place (length c.args.bytes.now) (g.met.D.Disk.only_now c.args.disk.now) c.write_at.ensures.time c.write_at.ensures.crash (g.D.Disk.disk c.sync.new.self) c.sync.ensures.quiet

pub returns-in-Err-clause-moments : goal.returns-in-Err-clause-moments
returns-in-Err-clause-moments g c = wrote_through (g.D.Disk.disk c.args.disk.now) (g.D.Disk.disk c.write_at.new.self) c.args.place (length c.args.bytes.now) (g.met.D.Disk.only_now c.args.disk.now) c.write_at.ensures.time c.write_at.ensures.crash (g.D.Disk.disk c.sync.new.self) c.sync.ensures.quiet
