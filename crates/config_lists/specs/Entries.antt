-- Values under keys: a list of pairs, read as the map from keys to values.
use Rattle.std.specs.Prelude.{◌≡◌, ℕ, ◌<◌, ◌≤◌, not, List, [], ◌∷◌, length, Option, filter}
use Rattle.std.specs.BTreeMap.{insert_entry}
use Rattle.std.specs.Cmp.Lexicographic.{slice_cmp}
use Rattle.std.specs.List.{HoldsAt}
use Rattle.std.specs.List.Sorted.{IsStrictlySortedBy, IsPartitionPoint}
use Rattle.std.specs.Map.{lookup, keys_of}
use Rattle.std.specs.declared.cmp.Ordering.TheVariants.{Less, Equal, Greater}
use Rattle.std.specs.Ordering.{nat_cmp}
use Rattle.std.specs.Str.{bytes_eq}

-- the value under a key, if the key is there
unfoldable pub value_of : {V : Type 0} → List (List ℕ × V) → List ℕ → Option V
value_of entries key = lookup (bytes_eq key) entries

-- the entries with this value under this key, which keeps its place or takes the one that the order gives it
unfoldable pub put : {V : Type 0} → List (List ℕ × V) → List ℕ → V → List (List ℕ × V)
put entries key value = insert_entry (slice_cmp nat_cmp) entries key value

-- the entries of all other keys
unfoldable pub without : {V : Type 0} → List (List ℕ × V) → List ℕ → List (List ℕ × V)
without entries key = filter (λ entry. not (bytes_eq key entry.0)) entries

-- the keys rise by their bytes, so that none comes twice
unfoldable pub KeysRise : {V : Type 0} → List (List ℕ × V) → Type 0
KeysRise entries = IsStrictlySortedBy (slice_cmp nat_cmp) (keys_of entries)

-- the entries after each entry of `by` was put
unfoldable pub replaced : {V : Type 0} → List (List ℕ × V) → List (List ℕ × V) → List (List ℕ × V)
replaced entries [] = entries
replaced entries (new ∷ by) = replaced (put entries new.0 new.1) by

-- the key stands at this place
pub record IsAt {V : Type 0} (entries : List (List ℕ × V)) (key : List ℕ) (place : ℕ) : Type 0 where
  pub within : place < length entries
  pub same : HoldsAt (λ entry. slice_cmp nat_cmp entry.0 key ≡ Equal) entries place

-- no entry has the key, which would stand at this place: after each key below it, before each key above it
pub record IsGap {V : Type 0} (entries : List (List ℕ × V)) (key : List ℕ) (place : ℕ) : Type 0 where
  pub within : place ≤ length entries
  pub between : IsPartitionPoint (λ entry. slice_cmp nat_cmp entry.0 key ≡ Less) (λ entry. slice_cmp nat_cmp entry.0 key
      ≡ Greater) entries place
