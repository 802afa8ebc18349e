use Rattle.std.proofs.Common.{[], ◌∷◌, ◌∙◌, length, length-append, ap, sym, subst, arith}
use Rattle.row_readings.specs.Rising.{AreRising}
use Rattle.core_drafts.specs.declared.lists.Undone.TheVariants as undone
use Rattle.core_drafts.specs.Steps.{before_changes, FitChanges, RoseBefore}
use Rattle.core_drafts.specs.Drafted.{Drafted, former}
use Rattle.core_drafts.proofs.Logs.{last-back, fits-more, rose-more}
use Rattle.core_drafts.proofs.draft.Draft.claim.Goals as goal

pub invariant_of-self : goal.invariant_of-self
invariant_of-self c = record {
  fits = subst (λ us. FitChanges us c.claim.new.self.state) (sym c.push_reserved.ensures.items)
      (fits-more c.self.inside.log.items undone.Claimed c.self.inside.lists.state c.claim.new.self.state
      c.claim.ensures.back tt c.self.invariant.fits);
  room =
      omega (
        arith,
        c.requires.ready.rows,
        c.claim.ensures.room,
        ap length c.push_reserved.ensures.items,
        length-append c.self.inside.log.items (undone.Claimed ∷ []),
        ap (λ (d : Drafted). length d.log) c.self.view_is,
        ap (λ (d : Drafted). d.room) c.self.view_is,
      );
  rises = subst AreRising (sym c.claim.ensures.state) c.self.invariant.rises;
  rose = subst (λ us. RoseBefore us c.claim.new.self.state) (sym c.push_reserved.ensures.items)
      (rose-more c.self.inside.log.items undone.Claimed c.self.inside.lists.state c.claim.new.self.state
      c.claim.ensures.back c.self.invariant.rises c.self.invariant.rose);
}

pub returns-clause-former : goal.returns-clause-former
returns-clause-former c =
    ap (λ us. before_changes us c.claim.new.self.state) c.push_reserved.ensures.items
    ∙ last-back c.self.inside.log.items undone.Claimed c.claim.new.self.state
    ∙ ap (before_changes c.self.inside.log.items) c.claim.ensures.back
    ∙ ap former c.self.view_is
