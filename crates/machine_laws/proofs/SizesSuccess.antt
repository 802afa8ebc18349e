-- Sizes after an operation succeeded: by its deed, no table has more rows and claims than before, and each row put is small.
use Rattle.std.proofs.Common.{◌≡◌, ◌≢◌, ℕ, ◌+◌, ◌≤◌, Bool, true, false, List, [], ◌∷◌, ◌++◌, map, length, refl, sym, ap, subst, ◌∙◌, inr, arith}
use Rattle.std.specs.Str.{bytes_eq}
use Rattle.plain_lists.specs.Members.{Mem, Each, Distinct}
use Rattle.plain_lists.proofs.Elements.{Each-head}
use Rattle.config_lists.proofs.Keys.{same, bytes_eq-itself}
use Rattle.size_values.specs.declared.kinds.ObjectKind.{ObjectKind}
use Rattle.size_values.specs.declared.kinds.ObjectKind.TheVariants as kind
use Rattle.records.specs.declared.rows.Instance.{Instance}
use Rattle.records.specs.declared.rows.Snapshot.{Snapshot}
use Rattle.records.specs.declared.rows.Row.{Row}
use Rattle.records.specs.declared.rows.Row.TheVariants as row
use Rattle.row_codec.specs.Spelling.{key_of}
use Rattle.row_machine.specs.declared.changes.RowChange.{RowChange}
use Rattle.row_machine.specs.declared.changes.RowChange.TheVariants as change
use Rattle.row_machine.specs.machine.State.{State}
use Rattle.row_machine.specs.machine.Rows.{texts_before, instance_names, snapshot_names, is_instance, is_snapshot}
use Rattle.row_machine.specs.machine.Changes.{applied, changed, with_row, without_row, removal, has_key}
use Rattle.row_machine.specs.machine.TableRules.{count_of}
use Rattle.machine_laws.proofs.NamesLists.{Mem-undropped, length-put, length-gone}
use Rattle.machine_laws.proofs.NamesDeeds.{gone_along}
use Rattle.machine_laws.proofs.SizesTables.{HasNoMore, without-no-more}

-- ---- removals alone

pub removals-no-more : (rows : List Row) (s : State) → HasNoMore (applied s (map removal rows)) s
removals-no-more [] s k = omega arith
removals-no-more (row.Project r ∷ rows) s k =
    let key = key_of (row.Project r) in
    omega (arith, removals-no-more rows (without_row kind.Project key s) k, without-no-more kind.Project key s k)
removals-no-more (row.Profile r ∷ rows) s k =
    let key = key_of (row.Profile r) in
    omega (arith, removals-no-more rows (without_row kind.Profile key s) k, without-no-more kind.Profile key s k)
removals-no-more (row.Network r ∷ rows) s k =
    let key = key_of (row.Network r) in
    omega (arith, removals-no-more rows (without_row kind.Network key s) k, without-no-more kind.Network key s k)
removals-no-more (row.Pool r ∷ rows) s k =
    let key = key_of (row.Pool r) in
    omega (arith, removals-no-more rows (without_row kind.Pool key s) k, without-no-more kind.Pool key s k)
removals-no-more (row.Volume r ∷ rows) s k =
    let key = key_of (row.Volume r) in
    omega (arith, removals-no-more rows (without_row kind.Volume key s) k, without-no-more kind.Volume key s k)
removals-no-more (row.Instance r ∷ rows) s k =
    let key = key_of (row.Instance r) in
    omega (arith, removals-no-more rows (without_row kind.Instance key s) k, without-no-more kind.Instance key s k)
removals-no-more (row.Snapshot r ∷ rows) s k =
    let key = key_of (row.Snapshot r) in
    omega (arith, removals-no-more rows (without_row kind.Snapshot key s) k, without-no-more kind.Snapshot key s k)

-- ---- snapshots that are put again under another name

abbrev snapshot_key : Snapshot → List ℕ
snapshot_key r = key_of (row.Snapshot r)

key_apart : (a b : List ℕ) → a ≢ b → bytes_eq a b ≡ false
key_apart a b apart = at (bytes_eq a b) refl where
  at : (t : Bool) → bytes_eq a b ≡ t → bytes_eq a b ≡ false
  at true is = absurd (apart (same a b is))
  at false is = is

-- snapshots of distinct keys that are there go, each of them
gone-count : (rs : List Snapshot) (s : State) → Distinct snapshot_key rs → Each (λ r. Mem r s.snapshots) rs
    → count_of (applied s (map removal (map row.Snapshot rs))) kind.Snapshot + length rs ≡ count_of s kind.Snapshot
gone-count [] s d there = omega arith
gone-count (r ∷ rs) s d there =
    let less = without_row kind.Snapshot (snapshot_key r) s in
    let one = length-gone (λ x. has_key (snapshot_key r) (row.Snapshot x)) r s.snapshots (Each-head there) (bytes_eq-itself (snapshot_key r)) in
    let stay : Each (λ x. Mem x less.snapshots) rs =
    record { at = λ x m. Mem-undropped (λ y. has_key (snapshot_key r) (row.Snapshot y)) x s.snapshots (there.at x (inr m)) (key_apart (snapshot_key x) (snapshot_key r) (d.0.at x m)) } in
    omega (arith, gone-count rs less d.1 stay)

-- snapshots that are put
along-count : (i : Instance) (rs : List Snapshot) (s : State)
    → count_of (applied s (map change.Put (map (gone_along i) rs))) kind.Snapshot ≤ count_of s kind.Snapshot + length rs
along-count i [] s = omega arith
along-count i (r ∷ rs) s =
    let new : Snapshot = record r { instance = i.name; project = i.project } in
    let one = length-put (is_snapshot new.project new.instance new.name) (λ y. texts_before (snapshot_names new) (snapshot_names y)) new s.snapshots in
    omega (arith, along-count i rs (with_row (gone_along i r) s))

-- a kind other than snapshots
abbrev IsOther : ObjectKind → Type 0
IsOther kind.Snapshot = ⊥
IsOther other = Unit {0}

along-others : (i : Instance) (rs : List Snapshot) (s : State) (k : ObjectKind) → IsOther k
    → count_of (applied s (map change.Put (map (gone_along i) rs))) k ≤ count_of s k
along-others i [] s k other = omega arith
along-others i (r ∷ rs) s kind.Snapshot other = absurd other
along-others i (r ∷ rs) s another other = along-others i rs (with_row (gone_along i r) s) another other

-- ---- an instance under another name

applied-append : (xs ys : List RowChange) (s : State) → applied s (xs ++ ys) ≡ applied (applied s xs) ys
applied-append [] ys s = refl
applied-append (x ∷ xs) ys s = applied-append xs ys (changed s x)

removals-append : (xs ys : List Row) → map removal (xs ++ ys) ≡ map removal xs ++ map removal ys
removals-append [] ys = refl
removals-append (x ∷ xs) ys = ap (λ zs. removal x ∷ zs) (removals-append xs ys)

-- one more instance
instance-count : (i : Instance) (s : State) (k : ObjectKind) → count_of (with_row (row.Instance i) s) k ≤ count_of s k + 1
instance-count i s kind.Instance =
    let le = length-put (is_instance i.project i.name) (λ y. texts_before (instance_names i) (instance_names y)) i s.instances in omega arith
instance-count i s other = omega arith

instance-others : (i : Instance) (s : State) (k : ObjectKind) → k ≢ kind.Instance → count_of (with_row (row.Instance i) s) k ≤ count_of s k
instance-others i s kind.Instance other = absurd (other refl)
instance-others i s another other = omega arith

pub rename-no-more : (u s : State) (rs : List Snapshot) (old : List Instance) (i : Instance) → HasNoMore u s → count_of u kind.Instance + 1 ≤ count_of s kind.Instance
    → Distinct snapshot_key rs → Each (λ r. Mem r u.snapshots) rs
    → HasNoMore (applied u (map removal (map row.Snapshot rs ++ map row.Instance old) ++ map change.Put (row.Instance i ∷ map (gone_along i) rs))) s
rename-no-more u s rs old i fewer one d there k = subst (λ t. count_of t k ≤ count_of s k) (sym whole) (at k) where
  gone : State
  gone = applied u (map removal (map row.Snapshot rs))

  without : State
  without = applied gone (map removal (map row.Instance old))

  renamed : State
  renamed = with_row (row.Instance i) without

  last : State
  last = applied renamed (map change.Put (map (gone_along i) rs))

  whole : applied u (map removal (map row.Snapshot rs ++ map row.Instance old) ++ map change.Put (row.Instance i ∷ map (gone_along i) rs)) ≡ last
  whole =
      applied-append (map removal (map row.Snapshot rs ++ map row.Instance old)) (map change.Put (row.Instance i ∷ map (gone_along i) rs)) u
      ∙ ap (λ cs. applied (applied u cs) (map change.Put (row.Instance i ∷ map (gone_along i) rs))) (removals-append (map row.Snapshot rs) (map row.Instance old))
      ∙ ap (λ t. applied t (map change.Put (row.Instance i ∷ map (gone_along i) rs))) (applied-append (map removal (map row.Snapshot rs)) (map removal (map row.Instance old)) u)

  down : (k : ObjectKind) → count_of without k ≤ count_of u k
  down k = omega (arith, removals-no-more (map row.Instance old) gone k, removals-no-more (map row.Snapshot rs) u k)

  other : (k : ObjectKind) → IsOther k → k ≢ kind.Instance → count_of last k ≤ count_of s k
  other k is differs = omega (arith, along-others i rs renamed k is, instance-others i without k differs, down k, fewer k)

  at : (k : ObjectKind) → count_of last k ≤ count_of s k
  at kind.Snapshot =
      omega (arith, along-count i rs renamed, instance-others i without kind.Snapshot (λ e. cc), removals-no-more (map row.Instance old) gone kind.Snapshot, gone-count rs u d there, fewer kind.Snapshot)
  at kind.Instance = omega (arith, along-others i rs renamed kind.Instance tt, instance-count i without kind.Instance, down kind.Instance, one)
  at kind.Project = other kind.Project tt (λ e. cc)
  at kind.Profile = other kind.Profile tt (λ e. cc)
  at kind.Network = other kind.Network tt (λ e. cc)
  at kind.Pool = other kind.Pool tt (λ e. cc)
  at kind.Volume = other kind.Volume tt (λ e. cc)
  at kind.Operation = other kind.Operation tt (λ e. cc)
