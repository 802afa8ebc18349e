use Rattle.std.proofs.Common.{◌≡◌, ◌++◌, map, take, drop}
use Rattle.disk_model.specs.Memory.{synced_at}
use Rattle.disk_model.proofs.memory.mark_synced.Given as goal

abbrev pub invariant-loop-write : goal.invariant-loop-write
invariant-loop-write l = l.write-items ≡ map (synced_at l.moment) (take l.write-index l.fn.writes.items) ++ drop l.write-index l.fn.writes.items
