use Rattle.std.proofs.Common.{sym, subst}
use Rattle.row_readings.specs.Rising.{AreRising}
use Rattle.core_drafts.proofs.Risen.{rising-empty}
use Rattle.core_drafts.proofs.Settled.{settled_is}
use Rattle.core_drafts.proofs.draft.Draft.new.Goals as goal

pub invariant_of-result : goal.invariant_of-result
invariant_of-result c = settled_is _ c.new-2.ensures.items (subst AreRising (sym c.in_ok-lists.ensures.state) rising-empty)
