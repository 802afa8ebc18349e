-- What a journal keeper does to its disk, and what a crash leaves of it.
use Rattle.std.specs.Prelude.{◌≡◌, ◌≢◌, ◌⊎◌, ℕ, ◌+◌, ◌<◌, ◌≤◌, min, Bool, true, false, ◌&&◌, List, [], ◌∷◌, ◌++◌, length}
use Rattle.std.specs.Prelude.{Option, Some, None, IfSome, Result, Ok, Err, OnOk, OnErr, IfOk, option_map}
use Rattle.plain_lists.specs.Members.{Mem}
use Rattle.size_values.specs.CallCounts.{CountsFailure}
use Rattle.size_values.specs.Calls.{last_number}
use Rattle.size_values.specs.declared.entry.Entry.{Entry}
use Rattle.size_values.specs.declared.memory.Or.{Or}
use Rattle.size_values.specs.declared.memory.Or.TheVariants as or
use Rattle.record_keeper.specs.declared.keeper.KeeperFailed.{KeeperFailed}
use Rattle.disk_model.specs.Disk.{DiskState, LeavesOnly, Torn, Only, disk_limit, patched}
use Rattle.journal_keeper.specs.Texts.{Commit, ◌>>=◌, is_short_commit}
use Rattle.journal_keeper.specs.Chain.{IsRecord, AreRecords, HasCommits, HasBadRecord, Chain, chain_of, rows_of}
use Rattle.journal_keeper.specs.declared.gate.Gate.{Gate}
use Rattle.journal_keeper.specs.declared.gate.Gate.TheVariants.{Unread, Closed, Unsure}

-- A crash leaves the chain of the base commits, or that and one commit of those in doubt.
abbrev pub IsLeft : List Commit → List Commit → List ℕ → Type 0
IsLeft base doubts file = Chain file base
    ⊎ ((last : Commit) × Mem last doubts × Chain file (base ++ last ∷ []))

-- ---- what the keeper knows of its file

-- the file has the base commits, and the gate behind them stands at this place
abbrev pub IsClosed : ℕ → List Commit → List ℕ → Type 0
IsClosed place base file = (has : HasCommits file base) × (length has.records ≡ place)

-- The record of one commit stands behind the base commits, and its gate, at this place, may be any byte.
pub record HasDoubt (place : ℕ) (base : List Commit) (last : Commit) (file : List ℕ) : Type 0 where
  pub records : List ℕ
  pub gate : ℕ
  pub body : List ℕ
  pub next : ℕ
  pub rest : List ℕ
  pub are : AreRecords records base
  pub place_is : length records ≡ place
  pub one : IsRecord (1 ∷ body) last
  pub closed : next ≢ 1
  pub bytes_are : file ≡ records ++ gate ∷ (body ++ next ∷ rest)

-- the gate is unsure: the first one of an empty chain, or that of a commit in doubt
abbrev pub IsUnsure : ℕ → List Commit → List Commit → List ℕ → Type 0
IsUnsure place base doubts file = ((place ≡ 0) × (base ≡ []) × (length file ≤ 1))
    ⊎ ((last : Commit) × Mem last doubts × HasDoubt place base last file)

-- what reads give has the property, and so has all that a crash now may leave
abbrev pub HasAlways : DiskState → (List ℕ → Type 0) → Type 0
HasAlways disk P = IfSome disk.contents (λ file. P file × ((left : List ℕ) → disk.may_leave left → P left))

-- The journal stands, since a load succeeded, for the base commits; those in doubt failed since the last that was
-- answered Ok.
abbrev pub Stands : DiskState → Gate → List Commit → List Commit → Type 0
Stands disk Unread base doubts = ⊥
Stands disk (Closed place) base doubts = (place ≤ disk_limit) × HasAlways disk (IsClosed place base)
Stands disk (Unsure place) base doubts = (place ≤ disk_limit) × HasAlways disk (IsUnsure place base doubts)

-- a journal that was loaded stands for some commits
abbrev pub IsSound : DiskState → Gate → Type 0
IsSound disk Unread = Unit {0}
IsSound disk (Closed place) = (base : List Commit) × (doubts : List Commit) × Stands disk (Closed place) base doubts
IsSound disk (Unsure place) = (base : List Commit) × (doubts : List Commit) × Stands disk (Unsure place) base doubts

-- where the disk tells its contents, a crash at any moment from old to new leaves bytes that have the property
abbrev pub LeavesTold : DiskState → DiskState → (List ℕ → Type 0) → Type 0
LeavesTold old new P = IfSome old.contents (λ _. LeavesOnly old new P)

-- what is written behind a closed gate: the rest of a record of the commit, and a closed gate
abbrev pub IsBlock : List ℕ → Commit → Type 0
IsBlock block commit = (body : List ℕ) × IsRecord (1 ∷ body) commit × (block ≡ body ++ 0 ∷ [])

-- a file that was read up to what is left of it, and the entries that its commits so far leave
pub record ReadsTo (file left : List ℕ) (rows : List Entry) : Type 0 where
  pub records : List ℕ
  pub commits : List Commit
  pub are : AreRecords records commits
  pub bytes_are : file ≡ records ++ left
  pub rows_are : rows ≡ rows_of commits
  pub some : 0 < length left

-- the reason of an answer has the property
abbrev pub OnBad : {T E : Type 0} → Result T (Or E) → (E → Type 0) → Type 0
OnBad (Ok value) P = Unit {0}
OnBad (Err or.NoMemory) P = Unit {0}
OnBad (Err (or.Why why)) P = P why

-- what a function returned, seen by view, is what reading gives
abbrev pub IsSeen : {X Y : Type 0} → (X → Y) → Option X → Option Y → Type 0
IsSeen view (Some value) read = read ≡ Some (view value)
IsSeen view None read = read ≡ None

-- where the disk tells its contents, a crash now leaves bytes that have the property
abbrev pub LeavesNow : DiskState → (List ℕ → Type 0) → Type 0
LeavesNow disk P = IfSome disk.contents (λ _. (left : List ℕ) → disk.may_leave left → P left)

-- what a crash may leave of a write of so many bytes to the disk
abbrev pub TornFrom : ℕ → ℕ → DiskState → List ℕ → Type 0
TornFrom place count disk left = (was : List ℕ) × disk.may_leave was × Torn place count was left

-- What a crash may leave is what reads give, and that has this size.
abbrev pub IsSettled : DiskState → ℕ → Type 0
IsSettled disk size = IfSome disk.contents (λ file. (size ≡ length file) × Only file disk.may_leave)

-- the gate is not unsure
abbrev pub IsMended : Gate → Type 0
IsMended Unread = Unit {0}
IsMended (Closed place) = Unit {0}
IsMended (Unsure place) = ⊥

-- the gate while the first gate of an empty chain is written
abbrev pub first_gate : Gate → Gate
first_gate Unread = Unread
first_gate (Closed place) = Unsure place
first_gate (Unsure place) = Unsure place

-- the gate of a journal that was read up to a place
abbrev pub read_gate : Gate → ℕ → Gate
read_gate Unread place = Closed place
read_gate (Closed was) place = Closed was
read_gate (Unsure was) place = Unsure was

-- What a load does to the disk's count of failures: one that met a bad open record failed, and left the disk's count.
abbrev pub CountsLoad : {T E : Type 0} → ℕ → ℕ → Option ℕ → Result T (Or E) → Type 0
CountsLoad before now None result = CountsFailure before now result
CountsLoad before now (Some place) (Ok value) = ⊥
CountsLoad before now (Some place) (Err or.NoMemory) = ⊥
CountsLoad before now (Some place) (Err (or.Why why)) = now ≡ before

-- the gate after it was mended
abbrev pub mended : Gate → Gate
mended Unread = Unread
mended (Closed place) = Closed place
mended (Unsure place) = Closed place

-- a load has succeeded
abbrev pub IsLoaded : Gate → Type 0
IsLoaded Unread = ⊥
IsLoaded (Closed place) = Unit {0}
IsLoaded (Unsure place) = Unit {0}

-- What a commit does to a journal that stands for the base commits. At each moment a crash leaves the base, or that and
-- one commit that was in doubt or is this one. Once it is answered Ok every crash leaves the base and this commit.
pub record Commits {E : Type 0} (old new : DiskState) (gate : Gate) (base doubts : List Commit) (changes : Commit) (result : Result (Unit {0}) E) : Type 0 where
  pub any_moment : LeavesTold old new (IsLeft base (doubts ++ changes ∷ []))
  pub acknowledged : OnOk result (LeavesNow new (λ left. Chain left (base ++ changes ∷ [])))
  pub ok : OnOk result (Stands new gate (base ++ changes ∷ []) [])
  pub err : OnErr result (Stands new gate base (doubts ++ changes ∷ []))

-- What a load does to a journal that was loaded before: a crash at any moment leaves what it could leave before, and
-- the journal stands for the same commits.
pub record StandsOn (old new : DiskState) (gate : Gate) (base doubts : List Commit) : Type 0 where
  pub any_moment : LeavesTold old new (IsLeft base doubts)
  pub stands : Stands new gate base doubts

-- the entries are those of the commits of the file, and the journal stands for them from now on
abbrev pub IsLoadOf : DiskState → Gate → List Entry → Type 0
IsLoadOf disk gate entries = IfSome disk.contents (λ file. (commits : List Commit)
    × Chain file commits × (entries ≡ rows_of commits) × Stands disk gate commits [])

-- no load had succeeded, and each crash so far leaves the chain of these commits
abbrev pub LeavesChain : DiskState → Gate → List Commit → Type 0
LeavesChain disk gate commits = (gate ≡ Unread) × ((left : List ℕ) → disk.may_leave left → Chain left commits)

-- the answer is that the keeper failed
abbrev pub IsFailure : {T E : Type 0} → Result T (Or E) → Type 0
IsFailure (Ok value) = ⊥
IsFailure (Err or.NoMemory) = ⊥
IsFailure (Err (or.Why why)) = Unit {0}

-- ---- what the keeper shows

-- the file with an unsure gate read as closed
abbrev pub read_as : Gate → List ℕ → List ℕ
read_as Unread file = file
read_as (Closed place) file = file
read_as (Unsure place) file = patched place (0 ∷ []) file

-- the entries that a load would give
abbrev pub entries_told : Gate → Option (List ℕ) → Option (List Entry)
entries_told gate contents = option_map rows_of (contents >>= λ file. chain_of (read_as gate file))

-- What a load does, whatever it answers: the journal stands for what it stood for, a crash at any moment leaves what it
-- could leave before, also where no load had succeeded yet, and the entries that a load would give stay.
pub record Loads {E : Type 0} (old new : DiskState) (before gate : Gate) (result : Result (List Entry) E) : Type 0 where
  pub stands : (base doubts : List Commit) → Stands old before base doubts → StandsOn old new gate base doubts
  pub first : (commits : List Commit) → LeavesChain old before commits → LeavesTold old new (λ left. Chain left commits)
  pub told : entries_told gate new.contents ≡ entries_told before old.contents
  pub found : IfOk result (IsLoadOf new gate)
  pub sound : IsSound old before → IsSound new gate

-- A journal keeper: its disk, what it knows of the gate behind its last commit, how many calls were made, how many
-- loads met a bad open record, how many commits could not be taken, and the place of the bad record that the last
-- load met.
pub record JournalState (D : Type 0) : Type 0 where
  pub disk : D
  pub gate : Gate
  pub calls : ℕ
  pub bad_loads : ℕ
  pub refused : ℕ
  pub bad_record : Option ℕ

-- the count of failures: those of the disk, the loads that met a bad open record, and the commits not taken
abbrev pub faults_of : ℕ → ℕ → ℕ → ℕ
faults_of failures bad_loads refused = min (failures + min (bad_loads + refused) last_number) last_number

-- a load has succeeded, as a test
abbrev pub is_read : Gate → Bool
is_read Unread = false
is_read (Closed place) = true
is_read (Unsure place) = true

-- a commit is taken where a load has succeeded and its changes can be written
abbrev pub is_taken : Gate → Commit → Bool
is_taken gate changes = is_read gate && is_short_commit changes

-- One that is not taken is answered a failure, and is counted. No other one is.
abbrev pub IsTaken : {T : Type 0} → Gate → Commit → ℕ → ℕ → Result T (Or KeeperFailed) → Type 0
IsTaken gate changes before now result =
    ((is_taken gate changes ≡ true) × (now ≡ before))
    ⊎ ((is_taken gate changes ≡ false) × (now ≡ min (before + 1) last_number) × IsFailure result)

-- What a load does to the count of loads that met a bad open record: it rose where the file has one, at the place that
-- is told then, and stays otherwise.
abbrev pub CountsBad : {T : Type 0} → Option (List ℕ) → ℕ → ℕ → Option ℕ → Result T (Or KeeperFailed) → Type 0
CountsBad contents before now None result = now ≡ before
CountsBad contents before now (Some place) result =
    (now ≡ min (before + 1) last_number) × IfSome contents (λ file. HasBadRecord file place) × IsFailure result

-- the count of loads that met a bad open record, after a load
abbrev pub bad_after : ℕ → Option ℕ → ℕ
bad_after before None = before
bad_after before (Some place) = min (before + 1) last_number
