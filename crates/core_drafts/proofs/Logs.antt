-- A log that grows by the last change, and what takes it back.
use Rattle.std.proofs.Common.{◌≡◌, List, [], ◌∷◌, ◌++◌, refl, ap, sym, subst, ◌∙◌}
use Rattle.row_machine.specs.machine.State.{State}
use Rattle.core_drafts.specs.declared.lists.Undone.{Undone}
use Rattle.row_readings.specs.Rising.{AreRising}
use Rattle.core_drafts.specs.Steps.{before_change, before_changes, FitsChange, FitChanges, RoseBefore}

-- the last change is taken back first
pub last-back : (us : List Undone) (u : Undone) (s : State) → before_changes (us ++ u ∷ []) s ≡ before_changes us (before_change u s)
last-back [] u s = refl
last-back (v ∷ us) u s = ap (before_change v) (last-back us u s)

-- a log with one more change fits
pub fits-more : (us : List Undone) (u : Undone) (s t : State) → before_change u t ≡ s → FitsChange u t → FitChanges us s → FitChanges (us ++ u ∷ []) t
fits-more [] u s t back fits rest = (tt, fits)
fits-more (v ∷ us) u s t back fits rest =
    (fits-more us u s t back fits rest.0, subst (FitsChange v) (sym (last-back us u t ∙ ap (before_changes us) back)) rest.1)

-- the last change of a log fits
pub fits-last : (us : List Undone) (u : Undone) (t : State) → FitChanges (us ++ u ∷ []) t → FitsChange u t
fits-last [] u t fits = fits.1
fits-last (v ∷ us) u t fits = fits-last us u t fits.0

-- and without it the log fits the state before it
pub fits-less : (us : List Undone) (u : Undone) (t : State) → FitChanges (us ++ u ∷ []) t → FitChanges us (before_change u t)
fits-less [] u t fits = tt
fits-less (v ∷ us) u t fits = (fits-less us u t fits.0, subst (FitsChange v) (last-back us u t) fits.1)

-- before a log with one more change the rows rose
pub rose-more : (us : List Undone) (u : Undone) (s t : State) → before_change u t ≡ s → AreRising s → RoseBefore us s → RoseBefore (us ++ u ∷ []) t
rose-more [] u s t back rises rose = (tt, subst AreRising (sym back) rises)
rose-more (v ∷ us) u s t back rises rose =
    (rose-more us u s t back rises rose.0, subst AreRising (sym (last-back (v ∷ us) u t ∙ ap (before_changes (v ∷ us)) back)) rose.1)

-- before the last change of a log the rows rose
pub rose-last : (us : List Undone) (u : Undone) (t : State) → RoseBefore (us ++ u ∷ []) t → AreRising (before_change u t)
rose-last [] u t rose = rose.1
rose-last (v ∷ us) u t rose = rose-last us u t rose.0

-- and before those in front of it
pub rose-less : (us : List Undone) (u : Undone) (t : State) → RoseBefore (us ++ u ∷ []) t → RoseBefore us (before_change u t)
rose-less [] u t rose = tt
rose-less (v ∷ us) u t rose = (rose-less us u t rose.0, subst AreRising (last-back (v ∷ us) u t) rose.1)
