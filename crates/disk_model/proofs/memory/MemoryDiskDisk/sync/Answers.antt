use Rattle.std.proofs.Common.{refl}
use Rattle.disk_model.proofs.Moves.{synced_only, synced_quiet}
use Rattle.disk_model.proofs.memory.MemoryDiskDisk.sync.Goals as goal

pub returns-clause-durable : goal.returns-clause-durable
returns-clause-durable c = synced_only c.args.self.now c.make_sync.new.self c.make_sync.result c.make_sync.ensures.ok c.make_sync.ensures.fails c.make_sync.ensures.numbers c.make_sync.ensures.was

pub returns-clause-quiet : goal.returns-clause-quiet
returns-clause-quiet c = synced_quiet c.args.self.now c.make_sync.new.self c.make_sync.result c.make_sync.ensures.ok c.make_sync.ensures.err c.make_sync.ensures.fails c.make_sync.ensures.numbers c.make_sync.ensures.was
