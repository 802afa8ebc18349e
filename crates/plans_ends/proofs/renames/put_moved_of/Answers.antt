use Rattle.std.proofs.Common.{◌≡◌, ◌∷◌, ◌++◌, OnOk, map, filter, ap, subst, ◌∙◌}
use Rattle.records.specs.declared.rows.Row.TheVariants as row_of
use Rattle.row_machine.specs.declared.changes.RowChange.TheVariants as change
use Rattle.row_machine.specs.machine.State.{State}
use Rattle.plans_ends.proofs.OwnSnapshots.{is_its, own-snapshots}
use Rattle.plans_ends.proofs.renames.put_moved_of.Goals as goal

pub returns : goal.returns
returns c =
    let its = is_its c.args.project.now c.args.instance.now in
    let to = c.args.to.now in
    subst (λ rows. OnOk c.put_moved.result (c.put_moved.new.changes ≡ c.args.changes.now
    ++ map change.Put (row_of.Instance to ∷ map (λ r. row_of.Snapshot (record r { instance = to.name; project = to.project })) rows)))
    (ap (filter its) c.rows_of-rows.ensures
    ∙ own-snapshots c.args.project.now c.args.instance.now c.view.inside.snapshots.now
    ∙ ap (λ (s : State). filter its s.snapshots) c.view.view_is)
    c.put_moved.ensures
