use Rattle.std.proofs.Common.{◌≡◌, ◌++◌, map, take, filter}
use Rattle.records.specs.declared.rows.Row.TheVariants as row
use Rattle.row_machine.specs.machine.Holders.{instance_uses}
use Rattle.object_users.proofs.users.add_instances_among.Given as goal

abbrev pub invariant-loop-row : goal.invariant-loop-row
invariant-loop-row l = l.all.items ≡ l.initial.all.items ++ map row.Instance (filter (instance_uses l.view l.home l.of) (take l.row-index l.rows))
