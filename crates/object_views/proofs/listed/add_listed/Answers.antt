use Rattle.std.proofs.Common.{◌≡◌, ◌++◌, OnOk, ap, subst}
use Rattle.row_machine.specs.machine.State.{State}
use Rattle.object_views.proofs.OfHome.{volumes-listed, snapshots-listed}
use Rattle.object_views.proofs.listed.add_listed.Goals as goal

pub returns-in-Volume : goal.returns-in-Volume
returns-in-Volume c =
    subst (λ rows. OnOk c.add_volumes_in.result (c.add_volumes_in.new.all.items ≡ c.args.all.now.items ++ rows))
    (volumes-listed c.args.view.now c.args.project.now c.args.of.now c.volume_home-home.result.now c.view-in-Volume.result.now _ c.rows_of-in-Volume.result.now
    c.in-Volume.is c.volume_home-home.ensures c.view-in-Volume.ensures.value (ap (λ (t : State). t.volumes) c.view.view_is) c.rows_of-in-Volume.ensures)
    c.add_volumes_in.ensures

pub returns-in-Snapshot : goal.returns-in-Snapshot
returns-in-Snapshot c =
    subst (λ rows. OnOk c.add_snapshots.result (c.add_snapshots.new.all.items ≡ c.args.all.now.items ++ rows))
    (snapshots-listed c.args.view.now c.args.project.now c.args.of.now c.view-in-Snapshot.result.now _ c.rows_of-in-Snapshot.result.now
    c.in-Snapshot.is c.view-in-Snapshot.ensures.value (ap (λ (t : State). t.snapshots) c.view.view_is) c.rows_of-in-Snapshot.ensures)
    c.add_snapshots.ensures
