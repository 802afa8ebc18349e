use Rattle.std.proofs.Common.{◌≡◌, ◌∷◌, ◌++◌, map, filter, if◌then◌else◌, false, take}
use Rattle.std.specs.Str.{bytes_eq}
use Rattle.records.specs.declared.rows.Row.TheVariants as row_of
use Rattle.row_machine.specs.declared.changes.RowChange.TheVariants as change
use Rattle.plans_ends.proofs.renames.put_moved.Given as goal

abbrev pub invariant-loop-row : goal.invariant-loop-row
invariant-loop-row l =
    l.changes ≡ l.fn.changes
    ++ map change.Put (row_of.Instance l.to ∷ map (λ r. row_of.Snapshot (record r { instance = l.to.name; project = l.to.project }))
    (filter (λ r. if bytes_eq r.project l.project then bytes_eq r.instance l.instance else false) (take l.row-index l.snapshots)))
