-- The file of a journal: a chain of records and a last gate byte.
use Rattle.std.specs.Prelude.{◌≡◌, ◌≢◌, ◌⊎◌, ℕ, zero, suc, ◌≤◌, ◌==◌, nat_lt, nat_le, List, [], ◌∷◌, ◌++◌, length, take, drop}
use Rattle.std.specs.Prelude.{Option, Some, None, option_map, if◌then◌else◌}
use Rattle.std.specs.Int.{w64, from_be_bytes, to_be_bytes}
use Rattle.record_keeper.specs.Entries.{after_changes}
use Rattle.size_values.specs.declared.entry.Entry.{Entry}
use Rattle.journal_keeper.specs.Texts.{Commit, Read, ◌>>=◌, commit_of}

-- An open record of a commit: its gate, which is 1, the length of its text in eight bytes, highest first, and the text.
pub record IsRecord (bytes : List ℕ) (commit : Commit) : Type 0 where
  pub size : List ℕ
  pub text : List ℕ
  pub eight : length size ≡ 8
  pub size_is : from_be_bytes w64 size ≡ length text
  pub says : commit_of text ≡ Some commit
  pub bytes_are : bytes ≡ 1 ∷ (size ++ text)

-- open records of these commits, one after the other
abbrev pub AreRecords : List ℕ → List Commit → Type 0
AreRecords bytes [] = bytes ≡ []
AreRecords bytes (commit ∷ commits) =
    (first : List ℕ) × (others : List ℕ) × IsRecord first commit × AreRecords others commits × (bytes ≡ first ++ others)

-- The file has these commits: open records of them, and then a gate that is not open, with anything behind it.
pub record HasCommits (file : List ℕ) (commits : List Commit) : Type 0 where
  pub records : List ℕ
  pub gate : ℕ
  pub rest : List ℕ
  pub are : AreRecords records commits
  pub closed : gate ≢ 1
  pub bytes_are : file ≡ records ++ gate ∷ rest

-- The commits that a file stands for. One of no byte or one byte stands for none.
abbrev pub Chain : List ℕ → List Commit → Type 0
Chain file commits = ((length file ≤ 1) × (commits ≡ [])) ⊎ HasCommits file commits

-- An open record begins at the place, and it is bad: no record with a byte behind it.
pub record HasBadRecord (file : List ℕ) (place : ℕ) : Type 0 where
  pub records : List ℕ
  pub commits : List Commit
  pub behind : List ℕ
  pub are : AreRecords records commits
  pub place_is : length records ≡ place
  pub bytes_are : file ≡ records ++ 1 ∷ behind
  pub bad : (commit : Commit) (body : List ℕ) (next : ℕ) (rest : List ℕ)
      → IsRecord (1 ∷ body) commit → behind ≢ body ++ next ∷ rest

-- the entries after these commits, one after the other
abbrev pub entries_after : List Entry → List Commit → List Entry
entries_after entries [] = entries
entries_after entries (commit ∷ commits) = entries_after (after_changes commit entries) commits

-- the entries that these commits leave
abbrev pub rows_of : List Commit → List Entry
rows_of commits = entries_after [] commits

-- ---- the same, read from left to right

-- what stands behind a gate that is open
unfoldable pub behind_open : List ℕ → Option (List ℕ)
behind_open [] = None
behind_open (gate ∷ behind) = if gate == 1 then Some behind else None

-- the size of a text, as it is written
unfoldable pub size_bytes : ℕ → List ℕ
size_bytes size = to_be_bytes w64 size

-- a size: eight bytes, highest first
unfoldable pub size_at : List ℕ → Read ℕ
size_at bytes = if nat_lt (length bytes) 8 then None else Some (from_be_bytes w64 (take 8 bytes), drop 8 bytes)

-- the commit of a text of this size and the bytes after it, of which there is at least one
unfoldable pub sized_at : ℕ → List ℕ → Read Commit
sized_at size bytes = if nat_lt size (length bytes)
    then option_map (λ commit. (commit, drop size bytes)) (commit_of (take size bytes)) else None

-- the record behind an open gate: its commit, and the bytes after it
unfoldable pub record_at : List ℕ → Read Commit
record_at bytes = do
  size ← size_at bytes
  sized_at size.0 size.1

-- the commits of a file of at most so many bytes, if each open record in it is whole
unfoldable pub commits_within : ℕ → List ℕ → Option (List Commit)
commits_within zero file = None
commits_within (suc most) [] = None
commits_within (suc most) (gate ∷ bytes) =
    if gate == 1 then (do
      first ← record_at bytes
      others ← commits_within most first.1
      Some (first.0 ∷ others)) else Some []

-- the commits of a file, unless it has a bad open record
unfoldable pub chain_of : List ℕ → Option (List Commit)
chain_of file = if nat_le (length file) 1 then Some [] else commits_within (length file) file
