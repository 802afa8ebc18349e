use Rattle.std.proofs.Common.{◌∙◌, ap, sym, subst}
use Rattle.row_readings.specs.Rising.{AreRising}
use Rattle.core_drafts.specs.Drafted.{Drafted}
use Rattle.core_drafts.proofs.Settled.{settled_is}
use Rattle.core_drafts.proofs.draft.Draft.close.Goals as goal

pub invariant_of-self : goal.invariant_of-self
invariant_of-self c =
    settled_is _ (ap (λ (d : Drafted). d.log) c.self.view_is ∙ c.requires.settled)
    (subst AreRising (sym c.close.ensures.state) c.self.invariant.rises)
