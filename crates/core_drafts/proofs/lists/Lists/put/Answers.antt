use Rattle.std.proofs.Common.{◌∙◌, ap, sym, subst}
use Rattle.records.specs.declared.rows.Row.TheVariants as row
use Rattle.row_machine.specs.machine.Changes.{with_row}
use Rattle.row_readings.specs.Rising.{AreRising}
use Rattle.core_drafts.specs.Inside.{state_in}
use Rattle.core_drafts.specs.Drafted.{Listed}
use Rattle.core_drafts.proofs.Rooms.{least-step, more}
use Rattle.core_drafts.proofs.lists.Lists.put.Goals as goal

pub put-requires-clause-rises : goal.put-requires-clause-rises
put-requires-clause-rises c = (subst (λ (x : Listed). AreRising x.state) (sym c.self.view_is) c.requires.rises).projects

pub put-requires-in-Profile-clause-rises : goal.put-requires-in-Profile-clause-rises
put-requires-in-Profile-clause-rises c = (subst (λ (x : Listed). AreRising x.state) (sym c.self-in-Profile.view_is) c.requires.rises).profiles

pub put-requires-in-Network-clause-rises : goal.put-requires-in-Network-clause-rises
put-requires-in-Network-clause-rises c = (subst (λ (x : Listed). AreRising x.state) (sym c.self-in-Network.view_is) c.requires.rises).networks

pub put-requires-in-Pool-clause-rises : goal.put-requires-in-Pool-clause-rises
put-requires-in-Pool-clause-rises c = (subst (λ (x : Listed). AreRising x.state) (sym c.self-in-Pool.view_is) c.requires.rises).pools

pub put-requires-in-Volume-clause-rises : goal.put-requires-in-Volume-clause-rises
put-requires-in-Volume-clause-rises c = (subst (λ (x : Listed). AreRising x.state) (sym c.self-in-Volume.view_is) c.requires.rises).volumes

pub put-requires-in-Snapshot-clause-rises : goal.put-requires-in-Snapshot-clause-rises
put-requires-in-Snapshot-clause-rises c = (subst (λ (x : Listed). AreRising x.state) (sym c.self-in-Snapshot.view_is) c.requires.rises).snapshots

pub returns-in-Project-clause-state : goal.returns-in-Project-clause-state
returns-in-Project-clause-state c =
    let s = state_in c.self.inside in
    ap (λ rows. record s { projects = rows }) c.put.ensures.rows
    ∙ ap (λ (x : Listed). with_row (row.Project c.in-Project.row) x.state) c.self.view_is
    ∙ ap (λ r. with_row r c.args.self.now.state) (sym c.in-Project.is)

pub returns-in-Profile-clause-state : goal.returns-in-Profile-clause-state
returns-in-Profile-clause-state c =
    let s = state_in c.self-in-Profile.inside in
    ap (λ rows. record s { profiles = rows }) c.put-in-Profile.ensures.rows
    ∙ ap (λ (x : Listed). with_row (row.Profile c.in-Profile.row) x.state) c.self-in-Profile.view_is
    ∙ ap (λ r. with_row r c.args.self.now.state) (sym c.in-Profile.is)

pub returns-in-Network-clause-state : goal.returns-in-Network-clause-state
returns-in-Network-clause-state c =
    let s = state_in c.self-in-Network.inside in
    ap (λ rows. record s { networks = rows }) c.put-in-Network.ensures.rows
    ∙ ap (λ (x : Listed). with_row (row.Network c.in-Network.row) x.state) c.self-in-Network.view_is
    ∙ ap (λ r. with_row r c.args.self.now.state) (sym c.in-Network.is)

pub returns-in-Pool-clause-state : goal.returns-in-Pool-clause-state
returns-in-Pool-clause-state c =
    let s = state_in c.self-in-Pool.inside in
    ap (λ rows. record s { pools = rows }) c.put-in-Pool.ensures.rows
    ∙ ap (λ (x : Listed). with_row (row.Pool c.in-Pool.row) x.state) c.self-in-Pool.view_is
    ∙ ap (λ r. with_row r c.args.self.now.state) (sym c.in-Pool.is)

pub returns-in-Volume-clause-state : goal.returns-in-Volume-clause-state
returns-in-Volume-clause-state c =
    let s = state_in c.self-in-Volume.inside in
    ap (λ rows. record s { volumes = rows }) c.put-in-Volume.ensures.rows
    ∙ ap (λ (x : Listed). with_row (row.Volume c.in-Volume.row) x.state) c.self-in-Volume.view_is
    ∙ ap (λ r. with_row r c.args.self.now.state) (sym c.in-Volume.is)

pub returns-in-Snapshot-clause-state : goal.returns-in-Snapshot-clause-state
returns-in-Snapshot-clause-state c =
    let s = state_in c.self-in-Snapshot.inside in
    ap (λ rows. record s { snapshots = rows }) c.put-in-Snapshot.ensures.rows
    ∙ ap (λ (x : Listed). with_row (row.Snapshot c.in-Snapshot.row) x.state) c.self-in-Snapshot.view_is
    ∙ ap (λ r. with_row r c.args.self.now.state) (sym c.in-Snapshot.is)

pub returns-in-Network-clause-room : goal.returns-in-Network-clause-room
returns-in-Network-clause-room c =
    least-step _ _ _ _ _ _ _ _ _ _ _ _ _ _ _ _ _ (ap (λ (x : Listed). x.room) c.self-in-Network.view_is)
    (more _) (more _) c.put-in-Network.ensures.room (more _) (more _) (more _) (more _) (more _)

pub returns-in-Pool-clause-room : goal.returns-in-Pool-clause-room
returns-in-Pool-clause-room c =
    least-step _ _ _ _ _ _ _ _ _ _ _ _ _ _ _ _ _ (ap (λ (x : Listed). x.room) c.self-in-Pool.view_is)
    (more _) (more _) (more _) c.put-in-Pool.ensures.room (more _) (more _) (more _) (more _)

pub returns-in-Volume-clause-room : goal.returns-in-Volume-clause-room
returns-in-Volume-clause-room c =
    least-step _ _ _ _ _ _ _ _ _ _ _ _ _ _ _ _ _ (ap (λ (x : Listed). x.room) c.self-in-Volume.view_is)
    (more _) (more _) (more _) (more _) c.put-in-Volume.ensures.room (more _) (more _) (more _)

pub returns-in-Snapshot-clause-room : goal.returns-in-Snapshot-clause-room
returns-in-Snapshot-clause-room c =
    least-step _ _ _ _ _ _ _ _ _ _ _ _ _ _ _ _ _ (ap (λ (x : Listed). x.room) c.self-in-Snapshot.view_is)
    (more _) (more _) (more _) (more _) (more _) (more _) c.put-in-Snapshot.ensures.room (more _)
