-- Sizes of tables after rows were put and removed, and while operations go on.
use Rattle.std.proofs.Common.{◌≡◌, ℕ, ◌+◌, ◌≤◌, Option, Some, None, List, length, refl, ap, arith}
use Rattle.plain_lists.specs.Members.{Each}
use Rattle.plain_lists.specs.Puts.{Puts}
use Rattle.plain_lists.proofs.Elements.{Each-map}
use Rattle.plain_lists.specs.Firsts.{first_of}
use Rattle.plain_lists.proofs.PutsLemmas.{length-Puts}
use Rattle.plain_lists.proofs.FirstLemmas.{none_both, told_if, first_of-none}
use Rattle.plain_lists.proofs.Readings.{read-same, read-Puts}
use Rattle.std.proofs.lemmas.Bool.{ltb-false}
use Rattle.size_values.specs.declared.kinds.ObjectKind.{ObjectKind}
use Rattle.size_values.specs.declared.kinds.ObjectKind.TheVariants as kind
use Rattle.operations.specs.declared.operation.Operation.{Operation}
use Rattle.operations.specs.OperationTable.{OperationTable}
use Rattle.records.specs.declared.rows.Row.{Row}
use Rattle.records.specs.declared.rows.Row.TheVariants as row
use Rattle.row_machine.specs.machine.Task.{Task}
use Rattle.row_machine.specs.machine.State.{State}
use Rattle.row_machine.specs.machine.Rows.{is_volume, is_instance, is_snapshot, texts_before, volume_names, instance_names, snapshot_names}
use Rattle.row_machine.specs.machine.Changes.{with_row, without_row, has_key}
use Rattle.row_machine.specs.machine.Claims.{claimed_instance, claimed_volume, claimed_snapshot}
use Rattle.row_machine.specs.machine.TableRules.{count_of, row_kinds, too_many, too_large, tables_broken, size_of, largest_row}
use Rattle.row_machine.specs.machine.Kinds.{cap_of}
use Rattle.machine_laws.proofs.NamesRise.{length-dropped}
use Rattle.machine_laws.proofs.NamesLists.{length-put}
use Rattle.machine_laws.proofs.NamesLive.{read_of}

-- ---- the rules

-- the tables of a state are not full
abbrev pub AreRoomy : State → Type 0
AreRoomy s = Each (λ k. count_of s k ≤ cap_of k) row_kinds

-- a row is not too large
abbrev pub IsSmall : Row → Type 0
IsSmall r = size_of r ≤ largest_row

pub tables-judged : (later : State) (rows : List Row) → tables_broken later rows ≡ None → AreRoomy later × Each IsSmall rows
unfolding tables_broken
tables-judged later rows e =
    let both = none_both (first_of (too_many later) row_kinds) _ e in
    let small = none_both (first_of too_large rows) None both.1 in (
      Each-map (λ k none. ltb-false (cap_of k) (count_of later k) (told_if _ _ none)) (first_of-none (too_many later) row_kinds both.0),
      Each-map (λ r none. ltb-false largest_row (size_of r) (told_if _ _ none)) (first_of-none too_large rows small.0),
    )

-- ---- a state with no more of each kind

abbrev pub HasNoMore : State → State → Type 0
HasNoMore later s = (k : ObjectKind) → count_of later k ≤ count_of s k

pub roomy-less : (later s : State) → HasNoMore later s → AreRoomy s → AreRoomy later
roomy-less later s fewer e = Each-map (λ k le. omega (arith, fewer k)) e

-- a removal
pub without-no-more : (of : ObjectKind) (key : List ℕ) (s : State) → HasNoMore (without_row of key s) s
without-no-more kind.Project key s kind.Project = length-dropped _ s.projects
without-no-more kind.Profile key s kind.Profile = length-dropped _ s.profiles
without-no-more kind.Network key s kind.Network = length-dropped _ s.networks
without-no-more kind.Pool key s kind.Pool = length-dropped _ s.pools
without-no-more kind.Volume key s kind.Volume = let le = length-dropped (λ r. has_key key (row.Volume r)) s.volumes in omega arith
without-no-more kind.Instance key s kind.Instance = let le = length-dropped (λ r. has_key key (row.Instance r)) s.instances in omega arith
without-no-more kind.Snapshot key s kind.Snapshot = let le = length-dropped (λ r. has_key key (row.Snapshot r)) s.snapshots in omega arith
without-no-more of key s other = omega arith

-- ---- a live operation is taken out

-- what is read of the operations that are left
pub reads-fewer : {X : Type 0} (read : Task → Option X) (o : Operation Task) {less live : List (Operation Task)} → Puts o less live
    → length (read_of read less) ≤ length (read_of read live)
reads-fewer {X} read o {less} {live} put = at (read o.work) refl where
  at : (claim : Option X) → read o.work ≡ claim → length (read_of read less) ≤ length (read_of read live)
  at None is = let same : length (read_of read live) ≡ length (read_of read less) = ap length (read-same (λ (x : Operation Task). read x.work) put is) in omega arith
  at (Some x) is = omega (arith, length-Puts (read-Puts (λ (y : Operation Task). read y.work) put is))

-- one that claims is one more
pub reads-one : {X : Type 0} (read : Task → Option X) (o : Operation Task) (x : X) {less live : List (Operation Task)} → Puts o less live
    → read o.work ≡ Some x → length (read_of read live) ≡ length (read_of read less) + 1
reads-one read o x put is = length-Puts (read-Puts (λ (y : Operation Task). read y.work) put is)

pub fewer-no-more : (s : State) (k : OperationTable Task) (o : Operation Task) → Puts o k.live s.operations.live → HasNoMore (record s { operations = k }) s
fewer-no-more s k o put kind.Volume = let le = reads-fewer claimed_volume o put in omega arith
fewer-no-more s k o put kind.Instance = let le = reads-fewer claimed_instance o put in omega arith
fewer-no-more s k o put kind.Snapshot = let le = reads-fewer claimed_snapshot o put in omega arith
fewer-no-more s k o put other = omega arith

-- ---- its claim becomes a row

-- a row that an operation can claim
abbrev pub IsClaimed : Row → Type 0
IsClaimed (row.Volume r) = Unit {0}
IsClaimed (row.Instance r) = Unit {0}
IsClaimed (row.Snapshot r) = Unit {0}
IsClaimed other = ⊥

-- the claim is counted no longer, and the row is
pub claim-no-more : (s : State) (k : OperationTable Task) (o : Operation Task) (r : Row) → Puts o k.live s.operations.live → o.work.claim ≡ Some r → IsClaimed r
    → HasNoMore (with_row r (record s { operations = k })) s
claim-no-more s k o (row.Volume r) put is claimed kind.Volume =
    let le = length-put (is_volume r.project r.pool r.name) (λ y. texts_before (volume_names r) (volume_names y)) r s.volumes in
    let one = reads-one claimed_volume o r put (ap (λ c. claimed_volume (record task { claim = c })) is) in
    omega arith
  where
    task : Task
    task = o.work
claim-no-more s k o (row.Volume r) put is claimed kind.Instance = let le = reads-fewer claimed_instance o put in omega arith
claim-no-more s k o (row.Volume r) put is claimed kind.Snapshot = let le = reads-fewer claimed_snapshot o put in omega arith
claim-no-more s k o (row.Volume r) put is claimed other = omega arith
claim-no-more s k o (row.Instance r) put is claimed kind.Instance =
    let le = length-put (is_instance r.project r.name) (λ y. texts_before (instance_names r) (instance_names y)) r s.instances in
    let one = reads-one claimed_instance o r put (ap (λ c. claimed_instance (record task { claim = c })) is) in
    omega arith
  where
    task : Task
    task = o.work
claim-no-more s k o (row.Instance r) put is claimed kind.Volume = let le = reads-fewer claimed_volume o put in omega arith
claim-no-more s k o (row.Instance r) put is claimed kind.Snapshot = let le = reads-fewer claimed_snapshot o put in omega arith
claim-no-more s k o (row.Instance r) put is claimed other = omega arith
claim-no-more s k o (row.Snapshot r) put is claimed kind.Snapshot =
    let le = length-put (is_snapshot r.project r.instance r.name) (λ y. texts_before (snapshot_names r) (snapshot_names y)) r s.snapshots in
    let one = reads-one claimed_snapshot o r put (ap (λ c. claimed_snapshot (record task { claim = c })) is) in
    omega arith
  where
    task : Task
    task = o.work
claim-no-more s k o (row.Snapshot r) put is claimed kind.Volume = let le = reads-fewer claimed_volume o put in omega arith
claim-no-more s k o (row.Snapshot r) put is claimed kind.Instance = let le = reads-fewer claimed_instance o put in omega arith
claim-no-more s k o (row.Snapshot r) put is claimed other = omega arith
claim-no-more s k o (row.Project r) put is claimed other = absurd claimed
claim-no-more s k o (row.Profile r) put is claimed other = absurd claimed
claim-no-more s k o (row.Network r) put is claimed other = absurd claimed
claim-no-more s k o (row.Pool r) put is claimed other = absurd claimed
