use Rattle.std.proofs.Common.{[]}
use Rattle.disk_model.proofs.Record.{stays}
use Rattle.disk_model.proofs.Moves.{wrote, wrote_bytes}
use Rattle.disk_model.proofs.memory.MemoryDiskDisk.write_at.Goals as goal

pub returns-clause-written : goal.returns-clause-written
returns-clause-written c = wrote_bytes c.args.place c.args.bytes.now c.args.self.now c.make_write.new.self c.make_write.result c.make_write.ensures.exact

pub returns-clause-crash : goal.returns-clause-crash
returns-clause-crash c = (wrote c.args.place c.args.bytes.now c.args.self.now c.make_write.new.self c.make_write.result c.make_write.ensures.exact c.make_write.ensures.numbers c.make_write.ensures.was).crash

pub returns-clause-stays : goal.returns-clause-stays
returns-clause-stays c = stays c.make_write.new.self.calls.made c.make_write.new.self.writes [] c.make_write.ensures.sound

pub returns-clause-time : goal.returns-clause-time
returns-clause-time c = (wrote c.args.place c.args.bytes.now c.args.self.now c.make_write.new.self c.make_write.result c.make_write.ensures.exact c.make_write.ensures.numbers c.make_write.ensures.was).time
