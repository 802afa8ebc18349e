use Rattle.std.proofs.Common.{◌≡◌, take}
use Rattle.host_model.specs.Roots.{others}
use Rattle.host_model.proofs.root.other_snapshots.Given as goal

abbrev pub invariant-loop-snapshot : goal.invariant-loop-snapshot
invariant-loop-snapshot l = l.copies.items ≡ others l.name (take l.snapshot-index l.snapshots)
