use Rattle.std.proofs.Common.{[], ◌∷◌, ◌∙◌, length, length-append, ap, sym, subst, arith}
use Rattle.row_readings.specs.Rising.{AreRising}
use Rattle.core_drafts.specs.Steps.{before_changes, FitChanges, RoseBefore}
use Rattle.core_drafts.specs.Drafted.{former}
use Rattle.core_drafts.proofs.Logs.{last-back, fits-last, fits-less, rose-last, rose-less}
use Rattle.core_drafts.proofs.draft.Draft.undo_last.Goals as goal

pub undo_change-requires-clause-fits : goal.undo_change-requires-clause-fits
undo_change-requires-clause-fits c =
    fits-last c.pop.new.self.items c.in-Some.undone c.self.inside.lists.state
    (subst (λ us. FitChanges us c.self.inside.lists.state) c.in-Some.ensures.items c.self.invariant.fits)

pub invariant_of-self : goal.invariant_of-self
invariant_of-self c = record {
  fits = subst (FitChanges c.pop.new.self.items) (sym c.undo_change.ensures.state)
      (fits-less c.pop.new.self.items c.in-Some.undone c.self.inside.lists.state
      (subst (λ us. FitChanges us c.self.inside.lists.state) c.in-Some.ensures.items c.self.invariant.fits));
  room =
      omega (
        arith,
        c.self.invariant.room,
        c.undo_change.ensures.room,
        ap length c.in-Some.ensures.items,
        length-append c.pop.new.self.items (c.in-Some.undone ∷ []),
      );
  rises = subst AreRising (sym c.undo_change.ensures.state)
      (rose-last c.pop.new.self.items c.in-Some.undone c.self.inside.lists.state
      (subst (λ us. RoseBefore us c.self.inside.lists.state) c.in-Some.ensures.items c.self.invariant.rose));
  rose = subst (RoseBefore c.pop.new.self.items) (sym c.undo_change.ensures.state)
      (rose-less c.pop.new.self.items c.in-Some.undone c.self.inside.lists.state
      (subst (λ us. RoseBefore us c.self.inside.lists.state) c.in-Some.ensures.items c.self.invariant.rose));
}

pub returns-in-Some-clause-former : goal.returns-in-Some-clause-former
returns-in-Some-clause-former c =
    ap (before_changes c.pop.new.self.items) c.undo_change.ensures.state
    ∙ sym (last-back c.pop.new.self.items c.in-Some.undone c.self.inside.lists.state)
    ∙ ap (λ us. before_changes us c.self.inside.lists.state) (sym c.in-Some.ensures.items)
    ∙ ap former c.self.view_is
