-- The state that rows open to: which rows it has, their names, how many, and that nothing else is there.
use Rattle.std.proofs.Common.{◌≡◌, ℕ, ◌+◌, ◌==◌, ◌≤◌, Bool, true, false, cond, ◌⊎◌, List, [], ◌∷◌, filter, fold, length, refl, ap, ◌∙◌, inl, inr, arith}
use Rattle.plain_lists.specs.Members.{Mem, Each}
use Rattle.plain_lists.proofs.Elements.{Each-none, Each-map}
use Rattle.size_values.specs.declared.kinds.ObjectKind.{ObjectKind}
use Rattle.size_values.specs.declared.kinds.ObjectKind.TheVariants as kind
use Rattle.operations.specs.OperationTable.{no_operations}
use Rattle.reservations.specs.Holdings.{no_books}
use Rattle.records.specs.declared.rows.Row.{Row}
use Rattle.records.specs.declared.rows.Row.TheVariants as row
use Rattle.row_codec.specs.Rows.{HasGoodKey, HasMoments}
use Rattle.row_codec.specs.Spelling.{kind_of}
use Rattle.row_machine.specs.machine.State.{State, empty_state}
use Rattle.row_machine.specs.machine.Rows.{texts_before, is_project, is_profile, is_network, is_pool, is_volume, is_instance, is_snapshot, project_names, profile_names, network_names, pool_names, volume_names, instance_names, snapshot_names}
use Rattle.row_machine.specs.machine.Changes.{with_row, applied, rows_put}
use Rattle.row_machine.specs.machine.Plans.{put_all}
use Rattle.row_machine.specs.opening.Records.{rows_of}
use Rattle.row_machine.specs.opening.Opening.{with_rows}
use Rattle.row_machine.specs.machine.TableRules.{count_of}
use Rattle.row_machine.specs.facts.Whole.{AreNamed}
use Rattle.machine_laws.specs.Entries.{number_of}
use Rattle.machine_laws.specs.Records.{StaysNamed}
use Rattle.machine_laws.proofs.NamesLists.{length-put}
use Rattle.machine_laws.proofs.NamesRows.{Mem-applied}
use Rattle.machine_laws.proofs.NamesPut.{IsUnclaimed}
use Rattle.machine_laws.proofs.NamesApplied.{IsReady, puts-each, stays-named, stays-last}

-- ---- rows put one after the other

-- with these rows put
abbrev pub with_all : List Row → State → State
with_all rows s = applied s (put_all rows)

rows-folded : (rows : List Row) (s : State) → fold (λ t r. with_row r t) s rows ≡ with_all rows s
rows-folded [] s = refl
rows-folded (r ∷ rows) s = rows-folded rows (with_row r s)

pub with_rows-is : (rows : List Row) → with_rows rows ≡ with_all rows empty_state
with_rows-is rows = rows-folded rows empty_state

-- each row that is there is one of them
pub only-rows : (rows : List Row) (r : Row) → Mem r (rows_of (with_all rows empty_state)) → Mem r rows
only-rows rows r m = by (Mem-applied empty_state (put_all rows) r m) where
  itself : Each (λ x. Mem x rows) (rows_put (put_all rows))
  itself = puts-each rows (record { at = λ x n. n })

  by : Mem r (rows_of empty_state) ⊎ Mem r (rows_put (put_all rows)) → Mem r rows
  by (inl none) = absurd none
  by (inr put) = itself.at r put

-- ---- names

pub empty-named : AreNamed empty_state
empty-named = record {
  good = Each-none;
  moments = Each-none;
  projects = tt;
  profiles = tt;
  networks = tt;
  pools = tt;
  volumes = tt;
  instances = tt;
  snapshots = tt;
  powers = refl;
  new_volumes = tt;
  new_instances = tt;
  new_snapshots = tt;
}

unclaimed : (r : Row) → IsUnclaimed no_operations r
unclaimed (row.Project r) = tt
unclaimed (row.Profile r) = tt
unclaimed (row.Network r) = tt
unclaimed (row.Pool r) = tt
unclaimed (row.Volume r) = Each-none
unclaimed (row.Instance r) = Each-none
unclaimed (row.Snapshot r) = Each-none

-- a row with good names and moments
abbrev pub IsKeyed : Row → Type 0
IsKeyed r = HasGoodKey r × HasMoments r

pub rows-stay_named : (rows : List Row) → Each IsKeyed rows → StaysNamed empty_state (put_all rows)
rows-stay_named rows keyed =
    stays-named empty_state (put_all rows) empty-named
    (puts-each rows (Each-map (λ r is. let ready : IsReady no_operations r = record { good = is.0; timely = is.1; free = unclaimed r } in ready) keyed))

pub rows-named : (rows : List Row) → Each IsKeyed rows → AreNamed (with_all rows empty_state)
rows-named rows keyed = stays-last empty_state (put_all rows) empty-named (rows-stay_named rows keyed)

-- ---- how many

-- one row more of this kind
abbrev one_more : ObjectKind → Row → ℕ
one_more k r = cond (kind_of r == number_of k) 1 0

with-count : (r : Row) (s : State) (k : ObjectKind) → count_of (with_row r s) k ≤ count_of s k + one_more k r
with-count (row.Project r) s kind.Project = length-put (is_project r.name) (λ y. texts_before (project_names r) (project_names y)) r s.projects
with-count (row.Profile r) s kind.Profile = length-put (is_profile r.project r.name) (λ y. texts_before (profile_names r) (profile_names y)) r s.profiles
with-count (row.Network r) s kind.Network = length-put (is_network r.project r.name) (λ y. texts_before (network_names r) (network_names y)) r s.networks
with-count (row.Pool r) s kind.Pool = length-put (is_pool r.name) (λ y. texts_before (pool_names r) (pool_names y)) r s.pools
with-count (row.Volume r) s kind.Volume =
    let le = length-put (is_volume r.project r.pool r.name) (λ y. texts_before (volume_names r) (volume_names y)) r s.volumes in omega arith
with-count (row.Instance r) s kind.Instance =
    let le = length-put (is_instance r.project r.name) (λ y. texts_before (instance_names r) (instance_names y)) r s.instances in omega arith
with-count (row.Snapshot r) s kind.Snapshot =
    let le = length-put (is_snapshot r.project r.instance r.name) (λ y. texts_before (snapshot_names r) (snapshot_names y)) r s.snapshots in omega arith
with-count (row.Project r) s other = omega arith
with-count (row.Profile r) s other = omega arith
with-count (row.Network r) s other = omega arith
with-count (row.Pool r) s other = omega arith
with-count (row.Volume r) s other = omega arith
with-count (row.Instance r) s other = omega arith
with-count (row.Snapshot r) s other = omega arith

-- the rows of a kind
abbrev pub of_kind : ObjectKind → List Row → List Row
of_kind k rows = filter (λ r. kind_of r == number_of k) rows

of_kind-more : (k : ObjectKind) (r : Row) (rows : List Row) → length (of_kind k (r ∷ rows)) ≡ one_more k r + length (of_kind k rows)
of_kind-more k r rows = at (kind_of r == number_of k) where
  at : (b : Bool) → length (cond b (r ∷ of_kind k rows) (of_kind k rows)) ≡ cond b 1 0 + length (of_kind k rows)
  at true = omega arith
  at false = omega arith

pub rows-count : (rows : List Row) (s : State) (k : ObjectKind) → count_of (with_all rows s) k ≤ count_of s k + length (of_kind k rows)
rows-count [] s k = omega arith
rows-count (r ∷ rows) s k = omega (arith, rows-count rows (with_row r s) k, with-count r s k, of_kind-more k r rows)

-- ---- nothing else is there

-- a state with the rows and the statuses of another one, and nothing else
abbrev pub rows_alone : State → State
rows_alone s = record s { operations = no_operations; held = []; books = no_books; notices = []; next_notice = 1; closed = false }

with-alone : (r : Row) (s : State) → with_row r (rows_alone s) ≡ rows_alone (with_row r s)
with-alone (row.Project r) s = refl
with-alone (row.Profile r) s = refl
with-alone (row.Network r) s = refl
with-alone (row.Pool r) s = refl
with-alone (row.Volume r) s = refl
with-alone (row.Instance r) s = refl
with-alone (row.Snapshot r) s = refl

all-alone : (rows : List Row) (s : State) → with_all rows (rows_alone s) ≡ rows_alone (with_all rows s)
all-alone [] s = refl
all-alone (r ∷ rows) s = ap (with_all rows) (with-alone r s) ∙ all-alone rows (with_row r s)

pub opened-alone : (rows : List Row) → with_all rows empty_state ≡ rows_alone (with_all rows empty_state)
opened-alone rows = all-alone rows empty_state
