-- A draft without changes that are not settled is one.
use Rattle.std.proofs.Common.{◌≡◌, [], length, sym, subst, arith, ap}
use Rattle.row_readings.specs.Rising.{AreRising}
use Rattle.core_drafts.specs.declared.draft.Draft.TheInside.{Inside}
use Rattle.core_drafts.specs.Inside.{IsDraft}
use Rattle.core_drafts.specs.Steps.{FitChanges, RoseBefore}

pub settled_is : (d : Inside) → d.log.items ≡ [] → AreRising d.lists.state → IsDraft d
settled_is d none rises = record {
  fits = subst (λ us. FitChanges us d.lists.state) (sym none) tt;
  room = let few = ap length none in omega (arith, few);
  rises = rises;
  rose = subst (λ us. RoseBefore us d.lists.state) (sym none) tt;
}
