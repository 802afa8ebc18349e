use Rattle.std.proofs.Common.{◌≡◌, ◌+◌, ◌≤◌, length, vec_len, vec_capacity}
use Rattle.record_keeper.specs.Entries.{IsOrderedEntries, after_changes}
use Rattle.record_keeper.proofs.map_keeper.change_all.Given as goal

abbrev pub invariant-loop-change : goal.invariant-loop-change
invariant-loop-change l = record {
  order : IsOrderedEntries l.entries.items;
  items : l.entries.items ≡ after_changes l.yielded l.initial.entries.items;
  len : vec_len l.entries ≤ vec_len l.initial.entries + length l.yielded;
  capacity : vec_capacity l.initial.entries ≤ vec_capacity l.entries;
}
