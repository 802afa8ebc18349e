-- What takes changes back leaves the shares aside.
use Rattle.std.proofs.Common.{◌≡◌, List, [], ◌∷◌, refl, ap, sym, subst, ◌∙◌}
use Rattle.reservations.specs.declared.books.Books.{Books}
use Rattle.reservations.specs.declared.books.Hold.{Hold}
use Rattle.row_machine.specs.machine.State.{State}
use Rattle.core_drafts.specs.declared.lists.Undone.{Undone}
use Rattle.core_drafts.specs.declared.lists.Undone.TheVariants as undone
use Rattle.row_readings.specs.Rising.{AreRising}
use Rattle.core_drafts.specs.Steps.{before_change, before_changes, FitsChange, FitChanges, RoseBefore}

module _ (held : List Hold) (books : Books) where
  one : (u : Undone) (s : State) → before_change u (record s { held = held; books = books }) ≡ record (before_change u s) { held = held; books = books }
  one (undone.Project p) s = refl
  one (undone.Profile p) s = refl
  one (undone.Network p) s = refl
  one (undone.Pool p) s = refl
  one (undone.Volume p) s = refl
  one (undone.Instance p power) s = refl
  one (undone.Snapshot p) s = refl
  one undone.Claimed s = refl
  one undone.Nothing s = refl

  pub before-held : (us : List Undone) (s : State)
      → before_changes us (record s { held = held; books = books }) ≡ record (before_changes us s) { held = held; books = books }
  before-held [] s = refl
  before-held (u ∷ us) s = ap (before_change u) (before-held us s) ∙ one u (before_changes us s)

  fits-one : (u : Undone) (s : State) → FitsChange u s → FitsChange u (record s { held = held; books = books })
  fits-one (undone.Project p) s fits = fits
  fits-one (undone.Profile p) s fits = fits
  fits-one (undone.Network p) s fits = fits
  fits-one (undone.Pool p) s fits = fits
  fits-one (undone.Volume p) s fits = fits
  fits-one (undone.Instance p power) s fits = fits
  fits-one (undone.Snapshot p) s fits = fits
  fits-one undone.Claimed s fits = fits
  fits-one undone.Nothing s fits = fits

  pub fits-held : (us : List Undone) (s : State) → FitChanges us s → FitChanges us (record s { held = held; books = books })
  fits-held [] s fits = tt
  fits-held (u ∷ us) s fits = (fits-held us s fits.0, subst (FitsChange u) (sym (before-held us s)) (fits-one u (before_changes us s) fits.1))

  pub rose-held : (us : List Undone) (s : State) → RoseBefore us s → RoseBefore us (record s { held = held; books = books })
  rose-held [] s rose = tt
  rose-held (u ∷ us) s rose = (rose-held us s rose.0, subst AreRising (sym (before-held (u ∷ us) s)) rose.1)
