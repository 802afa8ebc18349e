use Rattle.std.proofs.Common.{◌≡◌, length, take}
use Rattle.journal_keeper.proofs.Histories.{SoFar}
use Rattle.journal_keeper.proofs.history.commit_each.Given as goal

abbrev pub invariant-loop-index : goal.invariant-loop-index
invariant-loop-index g l = record {
  len : length l.answers ≡ length l.fn.commits;
  so_far : SoFar (g.D.Disk.disk l.fn.keeper.disk) (g.D.Disk.disk l.keeper.disk) l.fn.keeper.gate l.keeper.gate (take l.index l.fn.commits) (take l.index l.answers);
}
