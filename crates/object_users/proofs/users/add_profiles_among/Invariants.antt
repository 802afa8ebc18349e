use Rattle.std.proofs.Common.{◌≡◌, ◌++◌, map, take, filter}
use Rattle.records.specs.declared.rows.Row.TheVariants as row
use Rattle.row_machine.specs.machine.Holders.{profile_uses}
use Rattle.object_users.proofs.users.add_profiles_among.Given as goal

abbrev pub invariant-loop-row : goal.invariant-loop-row
invariant-loop-row l = l.all.items ≡ l.initial.all.items ++ map row.Profile (filter (profile_uses l.view l.home l.of) (take l.row-index l.rows))
