use Rattle.std.proofs.Common.{ap}
use Rattle.core_drafts.specs.declared.lists.Undone.TheVariants as undone
use Rattle.core_drafts.specs.Drafted.{Listed}
use Rattle.core_drafts.specs.Inside.{state_in}
use Rattle.core_drafts.proofs.Fitting.{fits-of}
use Rattle.core_drafts.proofs.Rooms.{least-step, more}
use Rattle.core_drafts.proofs.lists.Lists.undo_change.Goals as goal

pub undo_step-requires-clause-fits : goal.undo_step-requires-clause-fits
undo_step-requires-clause-fits c =
    fits-of _ (undone.Project c.in-Project.step) _ (state_in c.self.inside) c.in-Project.is (ap (λ (x : Listed). x.state) c.self.view_is) c.requires.fits

pub undo_step-requires-in-Profile-clause-fits : goal.undo_step-requires-in-Profile-clause-fits
undo_step-requires-in-Profile-clause-fits c =
    fits-of _ (undone.Profile c.in-Profile.step) _ (state_in c.self.inside) c.in-Profile.is (ap (λ (x : Listed). x.state) c.self.view_is) c.requires.fits

pub undo_step-requires-in-Network-clause-fits : goal.undo_step-requires-in-Network-clause-fits
undo_step-requires-in-Network-clause-fits c =
    fits-of _ (undone.Network c.in-Network.step) _ (state_in c.self.inside) c.in-Network.is (ap (λ (x : Listed). x.state) c.self.view_is) c.requires.fits

pub undo_step-requires-in-Pool-clause-fits : goal.undo_step-requires-in-Pool-clause-fits
undo_step-requires-in-Pool-clause-fits c =
    fits-of _ (undone.Pool c.in-Pool.step) _ (state_in c.self.inside) c.in-Pool.is (ap (λ (x : Listed). x.state) c.self.view_is) c.requires.fits

pub undo_step-requires-in-Volume-clause-fits : goal.undo_step-requires-in-Volume-clause-fits
undo_step-requires-in-Volume-clause-fits c =
    fits-of _ (undone.Volume c.in-Volume.step) _ (state_in c.self.inside) c.in-Volume.is (ap (λ (x : Listed). x.state) c.self.view_is) c.requires.fits

pub undo_step-requires-in-Snapshot-clause-fits : goal.undo_step-requires-in-Snapshot-clause-fits
undo_step-requires-in-Snapshot-clause-fits c =
    fits-of _ (undone.Snapshot c.in-Snapshot.step) _ (state_in c.self.inside) c.in-Snapshot.is (ap (λ (x : Listed). x.state) c.self.view_is) c.requires.fits

pub undo_step-requires-in-Instance-clause-fits : goal.undo_step-requires-in-Instance-clause-fits
undo_step-requires-in-Instance-clause-fits c =
    (fits-of _ (undone.Instance c.in-Instance.step c.in-Instance.power) _ (state_in c.self.inside) c.in-Instance.is (ap (λ (x : Listed). x.state) c.self.view_is) c.requires.fits).0

pub undo_step-requires-in-Instance-2-clause-fits : goal.undo_step-requires-in-Instance-2-clause-fits
undo_step-requires-in-Instance-2-clause-fits c =
    (fits-of _ (undone.Instance c.in-Instance.step c.in-Instance.power) _ (state_in c.self.inside) c.in-Instance.is (ap (λ (x : Listed). x.state) c.self.view_is) c.requires.fits).1

pub returns-in-Network-clause-room : goal.returns-in-Network-clause-room
returns-in-Network-clause-room c =
    least-step _ _ _ _ _ _ _ _ _ _ _ _ _ _ _ _ _ (ap (λ (x : Listed). x.room) c.self.view_is)
    (more _) (more _) c.undo_step-in-Network.ensures.room (more _) (more _) (more _) (more _) (more _)

pub returns-in-Pool-clause-room : goal.returns-in-Pool-clause-room
returns-in-Pool-clause-room c =
    least-step _ _ _ _ _ _ _ _ _ _ _ _ _ _ _ _ _ (ap (λ (x : Listed). x.room) c.self.view_is)
    (more _) (more _) (more _) c.undo_step-in-Pool.ensures.room (more _) (more _) (more _) (more _)

pub returns-in-Volume-clause-room : goal.returns-in-Volume-clause-room
returns-in-Volume-clause-room c =
    least-step _ _ _ _ _ _ _ _ _ _ _ _ _ _ _ _ _ (ap (λ (x : Listed). x.room) c.self.view_is)
    (more _) (more _) (more _) (more _) c.undo_step-in-Volume.ensures.room (more _) (more _) (more _)

pub returns-in-Instance-clause-room : goal.returns-in-Instance-clause-room
returns-in-Instance-clause-room c =
    least-step _ _ _ _ _ _ _ _ _ _ _ _ _ _ _ _ _ (ap (λ (x : Listed). x.room) c.self.view_is)
    (more _) (more _) (more _) (more _) (more _) c.undo_step-in-Instance.ensures.room (more _) c.undo_step-in-Instance-2.ensures.room

pub returns-in-Snapshot-clause-room : goal.returns-in-Snapshot-clause-room
returns-in-Snapshot-clause-room c =
    least-step _ _ _ _ _ _ _ _ _ _ _ _ _ _ _ _ _ (ap (λ (x : Listed). x.room) c.self.view_is)
    (more _) (more _) (more _) (more _) (more _) (more _) c.undo_step-in-Snapshot.ensures.room (more _)
