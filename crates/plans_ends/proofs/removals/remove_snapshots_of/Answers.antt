use Rattle.std.proofs.Common.{◌≡◌, ◌++◌, OnOk, map, filter, ap, subst, ◌∙◌}
use Rattle.records.specs.declared.rows.Row.TheVariants as row_of
use Rattle.row_machine.specs.machine.Changes.{removal}
use Rattle.row_machine.specs.machine.State.{State}
use Rattle.plans_ends.proofs.OwnSnapshots.{is_its, own-snapshots}
use Rattle.plans_ends.proofs.removals.remove_snapshots_of.Goals as goal

pub returns : goal.returns
returns c =
    let its = is_its c.args.project.now c.args.instance.now in
    subst (λ rows. OnOk c.remove_snapshots.result (c.remove_snapshots.new.changes ≡ c.args.changes.now ++ map removal (map row_of.Snapshot rows)))
    (ap (filter its) c.rows_of-rows.ensures
    ∙ own-snapshots c.args.project.now c.args.instance.now c.view.inside.snapshots.now
    ∙ ap (λ (s : State). filter its s.snapshots) c.view.view_is)
    c.remove_snapshots.ensures
