use Rattle.std.proofs.Common.{◌≡◌, map, take, filter}
use Rattle.records.specs.declared.rows.Row.TheVariants as row
use Rattle.row_machine.specs.machine.Holders.{names_profile}
use Rattle.object_users.proofs.users.naming_among.Given as goal

abbrev pub invariant-loop-row : goal.invariant-loop-row
invariant-loop-row l = l.all.items ≡ map row.Instance (filter (names_profile l.view l.home l.profile) (take l.row-index l.rows))
