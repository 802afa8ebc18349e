-- The steps of a loop that asks one rule after another, where the rules are plain values.
use Rattle.std.proofs.Common.{◌≡◌, ℕ, ◌+◌, ◌<◌, List, length, take, get_or, Option, None, sym}
use Rattle.std.proofs.lemmas.Option.{slice_get-get_or, get_or_from_slice_get}
use Rattle.plain_lists.specs.Firsts.{first_of}
use Rattle.size_values.specs.Causes.{Refuses}
use Rattle.size_values.specs.declared.memory.Or.{Or}
use Rattle.rules_refusals.proofs.Saying.{refuses-here, free-next}

module _ {X R : Type 0} (rule : X → Option R) (xs : List X) (i : ℕ) (d : X) (within : i < length xs) (before : first_of rule (take i xs) ≡ None) where
  same : get_or xs i d ≡ get_or xs i (get_or xs i d)
  same = sym (get_or_from_slice_get xs i (get_or xs i d) (get_or xs i d) (slice_get-get_or xs i d within))

  pub refuses-at : (e : Or R) → Refuses e (rule (get_or xs i d)) → Refuses e (first_of rule xs)
  refuses-at e refuses = refuses-here rule xs i (get_or xs i d) e within same before refuses

  pub free-at : rule (get_or xs i d) ≡ None → first_of rule (take (i + 1) xs) ≡ None
  free-at free = free-next rule xs i (get_or xs i d) within same before free
