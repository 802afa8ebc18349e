use Rattle.std.proofs.Common.{rules}
use Rattle.std.specs.List.Sorted.{IsStrictlySortedBy}
use Rattle.config_lists.specs.Entries.{KeysRise}
use Rattle.config_lists.proofs.sorted.Sorted.new.Goals as goal

pub invariant_of-result : goal.invariant_of-result
unfolding KeysRise IsStrictlySortedBy
invariant_of-result g c = search rules
