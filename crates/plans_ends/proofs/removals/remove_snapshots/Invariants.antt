use Rattle.std.proofs.Common.{◌≡◌, ◌++◌, map, filter, if◌then◌else◌, false, take}
use Rattle.std.specs.Str.{bytes_eq}
use Rattle.records.specs.declared.rows.Row.TheVariants as row_of
use Rattle.row_machine.specs.machine.Changes.{removal}
use Rattle.plans_ends.proofs.removals.remove_snapshots.Given as goal

abbrev pub invariant-loop-row : goal.invariant-loop-row
invariant-loop-row l =
    l.changes ≡ l.initial.changes
    ++ map removal (map row_of.Snapshot (filter (λ r. if bytes_eq r.project l.project then bytes_eq r.instance l.instance else false) (take l.row-index l.snapshots)))
