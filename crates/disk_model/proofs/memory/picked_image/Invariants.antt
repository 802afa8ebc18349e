use Rattle.std.proofs.Common.{◌≡◌, [], drop}
use Rattle.disk_model.specs.Memory.{picked}
use Rattle.disk_model.proofs.memory.picked_image.Given as goal

abbrev pub invariant-loop-write : goal.invariant-loop-write
invariant-loop-write l = picked l.pick (drop l.write-index l.writes) l.image.items ≡ picked l.fn.pick l.writes []
