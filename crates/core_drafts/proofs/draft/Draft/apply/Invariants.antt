use Rattle.std.proofs.Common.{◌≡◌, ◌+◌, length}
use Rattle.row_machine.specs.machine.Changes.{applied}
use Rattle.core_drafts.specs.Drafted.{former, IsReady}
use Rattle.core_drafts.proofs.draft.Draft.apply.Given as goal

abbrev pub invariant-loop-place : goal.invariant-loop-place
invariant-loop-place l =
    (applied l.self.state l.changes ≡ applied l.fn.self.state l.fn.changes)
    × (former l.self ≡ former l.fn.self)
    × IsReady l.self l.changes
    × (l.self.backing ≡ l.fn.self.backing)
    × (length l.changes + l._place ≡ length l.fn.changes)
