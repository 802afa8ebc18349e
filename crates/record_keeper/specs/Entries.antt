use Rattle.std.specs.Prelude.{ℕ, List, [], ◌∷◌, ◌++◌, filter, find, Option, Bool}
use Rattle.std.specs.declared.cmp.Ordering.{Ordering}
use Rattle.std.specs.Ordering.{ordering_then, nat_cmp, is_lt, is_gt, is_eq}
use Rattle.std.specs.Cmp.Lexicographic.{slice_cmp}
use Rattle.std.specs.List.Sorted.{IsStrictlySortedBy}
use Rattle.size_values.specs.declared.entry.Entry.{Entry}
use Rattle.size_values.specs.declared.entry.EntryChange.{EntryChange}
use Rattle.size_values.specs.declared.entry.EntryChange.TheVariants.{Put, Remove}

-- where an entry stands as seen from the place of a kind and key: by its kind, and within the kind by the bytes of its
-- key
abbrev pub seen_from : ℕ → List ℕ → Entry → Ordering
seen_from kind key entry = ordering_then (nat_cmp entry.kind kind) (slice_cmp nat_cmp entry.key key)

-- the order of entries
abbrev pub entry_order : Entry → Entry → Ordering
entry_order entry other = seen_from other.kind other.key entry

-- sorted by kind and key, each pair once: each entry is below all that follow it
abbrev pub IsOrderedEntries : List Entry → Type 0
IsOrderedEntries entries = IsStrictlySortedBy entry_order entries

-- the entries before the place of a kind and key
abbrev pub entries_before : ℕ → List ℕ → List Entry → List Entry
entries_before kind key entries = filter (λ entry. is_lt (seen_from kind key entry)) entries

-- the entries after that place
abbrev pub entries_after : ℕ → List ℕ → List Entry → List Entry
entries_after kind key entries = filter (λ entry. is_gt (seen_from kind key entry)) entries

-- the list with this entry at its place, instead of the one of its kind and key if there is one
unfoldable pub put_entry : Entry → List Entry → List Entry
put_entry entry entries =
    entries_before entry.kind entry.key entries ++ entry ∷ entries_after entry.kind entry.key entries

-- the list without the entry of this kind and key
unfoldable pub remove_entry : ℕ → List ℕ → List Entry → List Entry
remove_entry kind key entries = entries_before kind key entries ++ entries_after kind key entries

-- the entry of this kind and key, if there is one
abbrev pub entry_at : ℕ → List ℕ → List Entry → Option Entry
entry_at kind key entries = find (λ entry. is_eq (seen_from kind key entry)) entries

-- two kinds and keys name the same place
abbrev pub is_place : ℕ → List ℕ → ℕ → List ℕ → Bool
is_place kind key kind' key' = is_eq (ordering_then (nat_cmp kind' kind) (slice_cmp nat_cmp key' key))

-- the list after one change
abbrev pub after_change : EntryChange → List Entry → List Entry
after_change (Put entry) entries = put_entry entry entries
after_change (Remove kind key) entries = remove_entry kind key entries

-- the list after the changes, one after the other
abbrev pub after_changes : List EntryChange → List Entry → List Entry
after_changes [] entries = entries
after_changes (change ∷ rest) entries = after_changes rest (after_change change entries)

-- the list of these entries, put one after the other
abbrev pub entries_put : List Entry → List Entry → List Entry
entries_put [] entries = entries
entries_put (entry ∷ rest) entries = entries_put rest (put_entry entry entries)
