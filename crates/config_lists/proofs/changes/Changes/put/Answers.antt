use Rattle.std.proofs.Common.{ℕ, List, ◌≢◌, []}
use Rattle.config_lists.proofs.Puts.{All-tried_put}
use Rattle.config_lists.proofs.changes.Changes.put.Goals as goal

pub invariant_of-self : goal.invariant_of-self
invariant_of-self c =
    All-tried_put (λ (e : List ℕ × List ℕ). e.0 ≢ []) c.put.result _ _ c.args.key.now c.in_ok-value.value c.put.ensures.ok c.put.ensures.err c.self.invariant c.requires
