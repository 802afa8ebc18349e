use Rattle.core_drafts.proofs.Settled.{settled_is}
use Rattle.core_drafts.proofs.draft.Draft.of_rows.Goals as goal

pub invariant_of-result : goal.invariant_of-result
invariant_of-result c = settled_is _ c.new.ensures.items c.in_ok-lists.ensures.rises
