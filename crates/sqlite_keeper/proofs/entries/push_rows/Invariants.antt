use Rattle.std.proofs.Common.{take}
use Rattle.sqlite_keeper.specs.Entries.{SayEach}
use Rattle.sqlite_keeper.proofs.entries.push_rows.Given as goal

abbrev pub invariant-rows : goal.invariant-rows
invariant-rows l = SayEach (take l.row-index l.rows) l.found.items
