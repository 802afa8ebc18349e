use Rattle.std.proofs.Common.{◌≡◌, ◌++◌, map, take, filter}
use Rattle.std.specs.Str.{bytes_eq}
use Rattle.records.specs.declared.rows.Row.TheVariants as row
use Rattle.object_users.proofs.gathered.add_snapshots.Given as goal

abbrev pub invariant-loop-row : goal.invariant-loop-row
invariant-loop-row l = l.all.items ≡ l.initial.all.items ++ map row.Snapshot (filter (λ r. bytes_eq r.instance l.instance) (take l.row-index l.rows))
