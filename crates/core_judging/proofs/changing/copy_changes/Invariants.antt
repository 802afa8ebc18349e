use Rattle.std.proofs.Common.{◌≡◌, ◌++◌, drop}
use Rattle.core_judging.proofs.changing.copy_changes.Given as goal

abbrev pub invariant-loop-change : goal.invariant-loop-change
invariant-loop-change l = l.copies ++ drop l.change-index l.changes ≡ l.changes
