use Rattle.std.proofs.Common.{◌≡◌, ◌++◌, map, take}
use Rattle.records.specs.declared.rows.Row.TheVariants as row
use Rattle.object_users.proofs.gathered.add_instances.Given as goal

abbrev pub invariant-loop-row : goal.invariant-loop-row
invariant-loop-row l = l.all.items ≡ l.initial.all.items ++ map row.Instance (take l.row-index l.rows)
