use Rattle.std.proofs.Common.{◌≡◌, ◌++◌, drop}
use Rattle.core_drafts.specs.Drafted.{spares_of}
use Rattle.core_drafts.proofs.draft.spares_of.Given as goal

abbrev pub invariant-loop-change : goal.invariant-loop-change
invariant-loop-change l = l.spares.items ++ spares_of (drop l.change-index l.changes) ≡ spares_of l.changes
