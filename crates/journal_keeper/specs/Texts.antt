-- The text of a commit: a count of its changes, and each change. It is written in one way, and read from left to right.
use Rattle.std.specs.Prelude.{◌≡◌, ℕ, zero, suc, ◌^◌, ◌==◌, nat_lt, nat_le, List, [], ◌∷◌, ◌++◌, length, take, drop}
use Rattle.std.specs.Prelude.{Option, Some, None, Result, Ok, Err, Bool, ◌&&◌, if◌then◌else◌}
use Rattle.std.specs.Int.{w32, from_be_bytes, to_be_bytes}
use Rattle.std.specs.List.{flat_map, list_all}
use Rattle.std.specs.Str.{IsUtf8, is_utf8}
use Rattle.size_values.specs.declared.entry.EntryChange.{EntryChange}
use Rattle.size_values.specs.declared.entry.EntryChange.TheVariants.{Put, Remove}
use Rattle.size_values.specs.declared.memory.Or.{Or}
use Rattle.size_values.specs.declared.memory.Or.TheVariants as or
use Rattle.journal_keeper.specs.declared.texts.BadText.{BadText}

-- the changes of one commit, in their order
abbrev pub Commit : Type 0
Commit = List EntryChange

-- ---- writing

-- a key or a body: its length as four bytes, highest first, and its bytes
unfoldable pub part_bytes : List ℕ → List ℕ
part_bytes part = to_be_bytes w32 (length part) ++ part

-- a change: 1, kind, key and body of a put; 0, kind and key of a removal
unfoldable pub change_bytes : EntryChange → List ℕ
change_bytes (Put entry) = 1 ∷ entry.kind ∷ (part_bytes entry.key ++ part_bytes entry.body)
change_bytes (Remove kind key) = 0 ∷ kind ∷ part_bytes key

-- the text of a commit: its count of changes as four bytes, highest first, and the changes
unfoldable pub commit_text : Commit → List ℕ
commit_text changes = to_be_bytes w32 (length changes) ++ flat_map change_bytes changes

-- ---- which commits have a text

-- fewer than 2^32 of them
abbrev pub is_short : {A : Type 0} → List A → Bool
is_short items = nat_lt (length items) (2 ^ 32)

-- key and body are short
abbrev pub is_short_change : EntryChange → Bool
is_short_change (Put entry) = is_short entry.key && is_short entry.body
is_short_change (Remove kind key) = is_short key

-- A commit can be taken where it has fewer than 2^32 changes, and each key and each body is shorter.
abbrev pub is_short_commit : Commit → Bool
is_short_commit changes = is_short changes && list_all is_short_change changes

-- the key is UTF-8
abbrev pub IsTypedChange : EntryChange → Type 0
IsTypedChange (Put entry) = IsUtf8 entry.key
IsTypedChange (Remove kind key) = IsUtf8 key

-- ---- reading

-- what is read next from what was read
infixl 10 ◌>>=◌
abbrev pub ◌>>=◌ : {A B : Type 0} → Option A → (A → Option B) → Option B
(Some value) >>= f = f value
None >>= f = None

-- a part that is read, and the bytes after it
abbrev pub Read : Type 0 → Type 0
Read A = Option (A × List ℕ)

-- a count: four bytes, highest first
unfoldable pub count_at : List ℕ → Read ℕ
count_at bytes = if nat_lt (length bytes) 4 then None else Some (from_be_bytes w32 (take 4 bytes), drop 4 bytes)

-- a count, and as many bytes
unfoldable pub part_at : List ℕ → Read (List ℕ)
part_at bytes = do
  len ← count_at bytes
  if nat_le len.0 (length len.1) then Some (take len.0 len.1, drop len.0 len.1) else None

-- a key: a part that is UTF-8
unfoldable pub key_at : List ℕ → Read (List ℕ)
key_at bytes = do
  part ← part_at bytes
  if is_utf8 part.0 then Some part else None

-- the rest of a put
unfoldable pub put_at : ℕ → List ℕ → Read EntryChange
put_at kind bytes = do
  key ← key_at bytes
  body ← part_at key.1
  Some (Put (record { kind = kind; key = key.0; body = body.0 }), body.1)

-- the rest of a removal
unfoldable pub removal_at : ℕ → List ℕ → Read EntryChange
removal_at kind bytes = do
  key ← key_at bytes
  Some (Remove kind key.0, key.1)

-- a change
unfoldable pub change_at : List ℕ → Read EntryChange
change_at [] = None
change_at (form ∷ []) = None
change_at (form ∷ kind ∷ rest) =
    if form == 1 then put_at kind rest else (if form == 0 then removal_at kind rest else None)

-- so many changes, one after the other
unfoldable pub changes_at : ℕ → List ℕ → Read Commit
changes_at zero bytes = Some ([], bytes)
changes_at (suc n) bytes = do
  first ← change_at bytes
  others ← changes_at n first.1
  Some (first.0 ∷ others.0, others.1)

-- the changes with one more
abbrev pub added : Commit → Read EntryChange → Option (Commit × List ℕ)
added changes None = None
added changes (Some change) = Some (changes ++ change.0 ∷ [], change.1)

-- nothing is left over
abbrev pub ended : Commit × List ℕ → Option Commit
ended (changes, []) = Some changes
ended (changes, byte ∷ rest) = None

-- the commit that a text spells, if it spells one
unfoldable pub commit_of : List ℕ → Option Commit
commit_of text = do
  count ← count_at text
  changes ← changes_at count.0 count.1
  ended changes

-- What a function returned, seen by view, is what reading gives, unless memory ran out.
abbrev pub Gives : {X Y : Type 0} → (X → Y) → Result X (Or BadText) → Option Y → Type 0
Gives view (Ok value) read = read ≡ Some (view value)
Gives view (Err or.NoMemory) read = Unit {0}
Gives view (Err (or.Why bad)) read = read ≡ None

-- the same of a function that takes no memory
abbrev pub IsRead : {X Y : Type 0} → (X → Y) → Result X BadText → Option Y → Type 0
IsRead view (Ok value) read = read ≡ Some (view value)
IsRead view (Err bad) read = read ≡ None
