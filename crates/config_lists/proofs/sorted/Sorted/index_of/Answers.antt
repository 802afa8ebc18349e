use Rattle.std.proofs.Common.{rules}
use Rattle.std.proofs.lemmas.Fn.{always_returns_same}
use Rattle.config_lists.proofs.Keys.{order}
use Rattle.config_lists.proofs.Places.{searched}
use Rattle.config_lists.proofs.sorted.Sorted.index_of.Goals as goal

-- the closure compares a key with the one looked for, and the slice is the entries
pub returns : goal.returns
returns g c =
    let facts = c.binary_search_by.ensures in
    let found = facts.position (λ e. order e.0 c.args.key.now) (always_returns_same _ _ _ (λ a r f' called. search rules)) in
    rw (← c.self.view_is, ← c.as_slice.ensures.value) (searched _ c.args.key.now _ (rw c.as_slice.ensures.value c.self.invariant) facts.bound found)
