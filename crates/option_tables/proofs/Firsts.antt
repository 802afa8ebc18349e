-- The first fault of entries that are seen one after the other.
use Rattle.std.proofs.Common.{◌≡◌, ℕ, ◌+◌, ◌≤◌, List, length, drop, slice_get, Option, Some, None, sym, ap, ◌∙◌}
use Rattle.std.specs.List.{enumerate_from}
use Rattle.std.specs.Map.{keys_of, values_of}
use Rattle.std.specs.Option.{option_or}
use Rattle.std.proofs.lemmas.List.{drop_all}
use Rattle.plain_lists.specs.Firsts.{first_of}
use Rattle.config_lists.proofs.Walks.{drop-read}

module _ {V R : Type 0} (rule : ℕ × (List ℕ × V) → Option R) (es : List (List ℕ × V)) (i : ℕ) (key : List ℕ) (value : V) (k : slice_get (keys_of es) i ≡ Some key) (v : slice_get (values_of es) i ≡ Some value) where
  read : first_of rule (enumerate_from i (drop i es)) ≡ option_or (rule (i, (key, value))) (first_of rule (enumerate_from (i + 1) (drop (i + 1) es)))
  read = ap (λ xs. first_of rule (enumerate_from i xs)) (drop-read es i key value k v)

  -- the entry at this place is faulty
  pub first_of-here : (fault : R) → Some fault ≡ rule (i, (key, value)) → first_of rule (enumerate_from i (drop i es)) ≡ first_of rule (enumerate_from 0 es) → Some fault ≡ first_of rule (enumerate_from 0 es)
  first_of-here fault is invariant = ap (λ o. option_or o (first_of rule (enumerate_from (i + 1) (drop (i + 1) es)))) is ∙ sym read ∙ invariant

  -- it is not, and the first fault is further on
  pub first_of-later : None ≡ rule (i, (key, value)) → first_of rule (enumerate_from i (drop i es)) ≡ first_of rule (enumerate_from 0 es) → first_of rule (enumerate_from (i + 1) (drop (i + 1) es)) ≡ first_of rule (enumerate_from 0 es)
  first_of-later is invariant = ap (λ o. option_or o (first_of rule (enumerate_from (i + 1) (drop (i + 1) es)))) is ∙ sym read ∙ invariant

-- none is
pub first_of-none : {V R : Type 0} (rule : ℕ × (List ℕ × V) → Option R) (es : List (List ℕ × V)) (i : ℕ) → length es ≤ i → first_of rule (enumerate_from i (drop i es)) ≡ first_of rule (enumerate_from 0 es) → None ≡ first_of rule (enumerate_from 0 es)
first_of-none rule es i past invariant = ap (λ xs. first_of rule (enumerate_from i xs)) (sym (drop_all i es past)) ∙ invariant
