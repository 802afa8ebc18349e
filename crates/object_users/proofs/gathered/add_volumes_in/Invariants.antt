use Rattle.std.proofs.Common.{◌≡◌, ◌++◌, map, take, filter}
use Rattle.std.specs.Str.{bytes_eq}
use Rattle.records.specs.declared.rows.Row.TheVariants as row
use Rattle.object_users.proofs.gathered.add_volumes_in.Given as goal

abbrev pub invariant-loop-row : goal.invariant-loop-row
invariant-loop-row l = l.all.items ≡ l.initial.all.items ++ map row.Volume (filter (λ r. bytes_eq r.pool l.pool) (take l.row-index l.rows))
