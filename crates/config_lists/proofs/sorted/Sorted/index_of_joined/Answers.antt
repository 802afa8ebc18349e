use Rattle.std.proofs.Common.{◌++◌, rules, of_calls}
use Rattle.std.proofs.lemmas.Fn.{always_returns_same}
use Rattle.config_lists.proofs.Keys.{order}
use Rattle.config_lists.proofs.Places.{searched}
use Rattle.config_lists.proofs.sorted.Sorted.index_of_joined.Goals as goal

-- the closure compares a key with the joined one, and the slice is the entries
pub returns : goal.returns
returns g c =
    let key = c.args.front.now ++ c.args.rest.now in
    let facts = c.binary_search_by.ensures in
    let found = facts.position (λ e. order e.0 key) (always_returns_same _ _ _ (λ a r f' called. search (rules, of_calls))) in
    rw (← c.self.view_is, ← c.as_slice.ensures.value) (searched _ key _ (rw c.as_slice.ensures.value c.self.invariant) facts.bound found)
