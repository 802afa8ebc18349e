use Rattle.std.proofs.Common.{◌≡◌, ◌+◌, length}
use Rattle.core_drafts.specs.Drafted.{former}
use Rattle.core_drafts.proofs.draft.Draft.undo_changes.Given as goal

abbrev pub invariant-loop-place : goal.invariant-loop-place
invariant-loop-place l = (former l.self ≡ former l.fn.self) × (l.self.backing.greatest ≡ l.fn.self.backing.greatest) × (length l.self.log + l._place ≡ length l.fn.self.log)
