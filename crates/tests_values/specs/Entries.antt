-- What a keeper keeps after changes.
use Prim.Native.String.{String}
use Rattle.std.specs.Prelude.{◌≡◌, ℕ, List, [], ◌∷◌, fold, codes}
use Rattle.record_keeper.specs.Entries.{after_changes, entries_put}
use Rattle.size_values.specs.declared.entry.Entry.{Entry}
use Rattle.size_values.specs.declared.entry.EntryChange.{EntryChange}
use Rattle.size_values.specs.declared.entry.EntryChange.TheVariants as change
use Rattle.tests_values.specs.Tables.{Agree}

-- an entry of a kind and a key, with a body of one byte
abbrev pub entry : ℕ → String → ℕ → Entry
entry kind key byte = record { kind = kind; key = codes key; body = byte ∷ [] }

-- such an entry is put
abbrev pub put : ℕ → String → ℕ → EntryChange
put kind key byte = change.Put (entry kind key byte)

-- that of a kind and a key is removed
abbrev pub remove : ℕ → String → EntryChange
remove kind key = change.Remove kind (codes key)

-- what is kept of what is there before, after the changes
abbrev pub Case : Type 0
Case = List Entry × List EntryChange × List Entry

-- nothing; one; by key; by kind first; a shorter key first; replaced; removed; removed where there is none; and what a
-- keeper does of whose calls some fail
abbrev pub cases : List Case
cases =
    ([], [], [])
    ∷ ([], put 1 "a" 7 ∷ [], entry 1 "a" 7 ∷ [])
    ∷ ([], put 1 "b" 1 ∷ put 1 "a" 2 ∷ [], entry 1 "a" 2 ∷ entry 1 "b" 1 ∷ [])
    ∷ ([], put 2 "a" 1 ∷ put 1 "b" 2 ∷ [], entry 1 "b" 2 ∷ entry 2 "a" 1 ∷ [])
    ∷ ([], put 1 "aa" 1 ∷ put 1 "a" 2 ∷ [], entry 1 "a" 2 ∷ entry 1 "aa" 1 ∷ [])
    ∷ ([], put 1 "a" 1 ∷ put 1 "b" 2 ∷ put 1 "a" 3 ∷ [], entry 1 "a" 3 ∷ entry 1 "b" 2 ∷ [])
    ∷ ([], put 1 "a" 1 ∷ put 2 "a" 2 ∷ remove 1 "a" ∷ [], entry 2 "a" 2 ∷ [])
    ∷ ([], put 1 "a" 1 ∷ remove 1 "b" ∷ [], entry 1 "a" 1 ∷ [])
    ∷ (entry 1 "a" 1 ∷ [], remove 1 "a" ∷ [], [])
    ∷ []

-- a keeper begins with entries in any order, of which the last of a kind and key counts
abbrev pub given : List Entry
given = entry 2 "x" 1 ∷ entry 1 "y" 2 ∷ entry 2 "x" 3 ∷ []

-- every case
pub record EntriesHold : Type 0 where
  pub kept : Agree (λ row. after_changes row.1 row.0) (λ row. row.2) cases
  pub kept_one_by_one :
      Agree (λ row. fold (λ before made. after_changes (made ∷ []) before) row.0 row.1) (λ row. row.2) cases
  pub begun : entries_put given [] ≡ entry 1 "y" 2 ∷ entry 2 "x" 3 ∷ []
