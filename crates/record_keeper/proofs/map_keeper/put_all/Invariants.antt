use Rattle.std.proofs.Common.{◌≡◌, [], take}
use Rattle.record_keeper.specs.Entries.{IsOrderedEntries, entries_put}
use Rattle.record_keeper.proofs.map_keeper.put_all.Given as goal

abbrev pub invariant-loop-entry : goal.invariant-loop-entry
invariant-loop-entry l = record {
  order : IsOrderedEntries l.kept.items;
  items : l.kept.items ≡ entries_put (take l.entry-index l.entries) [];
}
