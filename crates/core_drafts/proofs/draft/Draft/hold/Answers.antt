use Rattle.std.proofs.Common.{◌-◌, ◌++◌, [], ◌∷◌, sym, subst, arith}
use Rattle.reservations.specs.Holdings.{granted_more}
use Rattle.row_readings.specs.Rising.{AreRising}
use Rattle.core_drafts.specs.Steps.{FitChanges, RoseBefore}
use Rattle.core_drafts.proofs.HeldAside.{fits-held, rose-held}
use Rattle.core_drafts.proofs.draft.Draft.hold.Goals as goal

pub invariant_of-self : goal.invariant_of-self
invariant_of-self c =
    let s = c.self.inside.lists.state in
    record {
      fits = subst (FitChanges c.self.inside.log.items) (sym c.hold.ensures.state)
          (fits-held
          (s.held ++ record { op = s.operations.next - 1; project = c.args.project; share = c.args.share; part = c.args.on } ∷ [])
          (granted_more c.args.share c.args.on s.books)
          c.self.inside.log.items s c.self.invariant.fits);
      room = omega (arith, c.self.invariant.room, c.hold.ensures.room);
      rises = subst AreRising (sym c.hold.ensures.state) c.self.invariant.rises;
      rose = subst (RoseBefore c.self.inside.log.items) (sym c.hold.ensures.state)
          (rose-held
          (s.held ++ record { op = s.operations.next - 1; project = c.args.project; share = c.args.share; part = c.args.on } ∷ [])
          (granted_more c.args.share c.args.on s.books)
          c.self.inside.log.items s c.self.invariant.rose);
    }
