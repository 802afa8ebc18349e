use Rattle.std.proofs.Common.{◌≡◌, take}
use Rattle.host_model.proofs.root.copy_snapshots.Given as goal

abbrev pub invariant-loop-snapshot : goal.invariant-loop-snapshot
invariant-loop-snapshot l = l.copies.items ≡ take l.snapshot-index l.snapshots
