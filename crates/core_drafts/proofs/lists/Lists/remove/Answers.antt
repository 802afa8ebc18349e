use Rattle.std.proofs.Common.{ap}
use Rattle.core_drafts.specs.Drafted.{Listed}
use Rattle.core_drafts.proofs.Rooms.{least-step, more}
use Rattle.core_drafts.proofs.lists.Lists.remove.Goals as goal

pub returns-in-Network-clause-room : goal.returns-in-Network-clause-room
returns-in-Network-clause-room c =
    least-step _ _ _ _ _ _ _ _ _ _ _ _ _ _ _ _ _ (ap (λ (x : Listed). x.room) c.self.view_is)
    (more _) (more _) c.remove-in-Network.ensures.room (more _) (more _) (more _) (more _) (more _)

pub returns-in-Pool-clause-room : goal.returns-in-Pool-clause-room
returns-in-Pool-clause-room c =
    least-step _ _ _ _ _ _ _ _ _ _ _ _ _ _ _ _ _ (ap (λ (x : Listed). x.room) c.self.view_is)
    (more _) (more _) (more _) c.remove-in-Pool.ensures.room (more _) (more _) (more _) (more _)

pub returns-in-Volume-clause-room : goal.returns-in-Volume-clause-room
returns-in-Volume-clause-room c =
    least-step _ _ _ _ _ _ _ _ _ _ _ _ _ _ _ _ _ (ap (λ (x : Listed). x.room) c.self.view_is)
    (more _) (more _) (more _) (more _) c.remove-in-Volume.ensures.room (more _) (more _) (more _)

pub returns-in-Instance-clause-room : goal.returns-in-Instance-clause-room
returns-in-Instance-clause-room c =
    least-step _ _ _ _ _ _ _ _ _ _ _ _ _ _ _ _ _ (ap (λ (x : Listed). x.room) c.self.view_is)
    (more _) (more _) (more _) (more _) (more _) c.remove-row.ensures.room (more _) c.remove-power.ensures.room

pub returns-in-Snapshot-clause-room : goal.returns-in-Snapshot-clause-room
returns-in-Snapshot-clause-room c =
    least-step _ _ _ _ _ _ _ _ _ _ _ _ _ _ _ _ _ (ap (λ (x : Listed). x.room) c.self.view_is)
    (more _) (more _) (more _) (more _) (more _) (more _) c.remove-in-Snapshot.ensures.room (more _)
