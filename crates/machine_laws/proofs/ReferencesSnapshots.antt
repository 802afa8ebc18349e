-- Snapshots that are removed with their instance, or put for it under another name.
use Rattle.std.proofs.Common.{◌≡◌, ◌≢◌, ℕ, Bool, true, false, cond, ◌⊎◌, List, [], ◌∷◌, ◌++◌, map, refl, sym, ap, ◌∙◌, inl, inr}
use Rattle.std.specs.List.{filter}
use Rattle.std.specs.Option.{is_some}
use Rattle.std.specs.Str.{bytes_eq}
use Rattle.plain_lists.specs.Members.{Mem, Each, Distinct}
use Rattle.plain_lists.specs.Edits.{dropped}
use Rattle.plain_lists.proofs.Elements.{Each-head, Each-tail}
use Rattle.plain_lists.proofs.EditLemmas.{Mem-dropped, Each-dropped, Distinct-dropped}
use Rattle.config_lists.proofs.Keys.{same, bytes_eq-itself}
use Rattle.records.specs.declared.rows.Snapshot.{Snapshot}
use Rattle.records.specs.declared.rows.Row.{Row}
use Rattle.records.specs.declared.rows.Row.TheVariants as row
use Rattle.row_codec.specs.Rows.{HasGoodKey}
use Rattle.row_codec.specs.Spelling.{key_of}
use Rattle.row_machine.specs.declared.changes.RowChange.{RowChange}
use Rattle.row_machine.specs.declared.changes.RowChange.TheVariants as change
use Rattle.row_machine.specs.machine.State.{State}
use Rattle.row_machine.specs.machine.Rows.{is_snapshot, snapshot_names, snapshot_named, with_snapshot, texts_before}
use Rattle.row_machine.specs.machine.Changes.{applied, changed, has_key, removal}
use Rattle.row_machine.specs.machine.Asked.{snapshots_of}
use Rattle.machine_laws.proofs.NamesLists.{Mem-replaced}
use Rattle.machine_laws.proofs.ReferencesFinds.{left-other, other-undropped}
use Rattle.machine_laws.proofs.ReferencesKeys.{tells-snapshot, key-snapshot, keyed-snapshot}
use Rattle.machine_laws.proofs.ReferencesUnused.{Mem-filter}
use Rattle.machine_laws.proofs.ReferencesRows.{snapshot-still}

-- ---- removals

abbrev without_one : Snapshot → List Snapshot → List Snapshot
without_one r ss = dropped (λ y. has_key (key_of (row.Snapshot r)) (row.Snapshot y)) ss

-- without all of these
abbrev pub without_all : List Snapshot → List Snapshot → List Snapshot
without_all [] ss = ss
without_all (r ∷ rs) ss = without_all rs (without_one r ss)

pub applied-removals : (rs : List Snapshot) (more : List Row) (s : State)
    → applied s (map removal (map row.Snapshot rs ++ more)) ≡ applied (record s { snapshots = without_all rs s.snapshots }) (map removal more)
applied-removals [] more s = refl
applied-removals (r ∷ rs) more s = applied-removals rs more (changed s (removal (row.Snapshot r)))

pub Mem-without : (rs : List Snapshot) (y : Snapshot) (ss : List Snapshot) → Mem y (without_all rs ss) → Mem y ss
Mem-without [] y ss m = m
Mem-without (r ∷ rs) y ss m = Mem-dropped y _ ss (Mem-without rs y (without_one r ss) m)

drops : (r : Snapshot) (ss : List Snapshot) → HasGoodKey (row.Snapshot r) → Each (λ y. HasGoodKey (row.Snapshot y)) ss
    → Each (λ y. has_key (key_of (row.Snapshot r)) (row.Snapshot y) ≡ true → snapshot_names y ≡ snapshot_names r) ss
drops r ss good goods = record { at = λ y m. key-snapshot r y good (goods.at y m) }

-- none of those is left
gone : (rs : List Snapshot) (y : Snapshot) (ss : List Snapshot) → Distinct snapshot_names ss
    → Each (λ r. HasGoodKey (row.Snapshot r)) rs
    → Each (λ x. HasGoodKey (row.Snapshot x)) ss → Mem y rs → Mem y (without_all rs ss) → ⊥
gone [] y ss distinct good goods m n = m
gone (r ∷ rs) y ss distinct good goods (inl e) n =
    left-other snapshot_names ss distinct (drops r ss (Each-head good) goods) (λ x. keyed-snapshot r x) y
    (Mem-without rs y (without_one r ss) n) (ap snapshot_names e)
gone (r ∷ rs) y ss distinct good goods (inr m) n =
    gone rs y (without_one r ss) (Distinct-dropped snapshot_names _ ss distinct) (Each-tail good)
    (Each-dropped _ goods) m n

-- other snapshots are found as before
found : (rs : List Snapshot) (ss : List Snapshot) (project instance name : List ℕ)
    → Each (λ r. HasGoodKey (row.Snapshot r)) rs
    → Each (λ x. HasGoodKey (row.Snapshot x)) ss → Each (λ r. snapshot_names r ≢ project ∷ instance ∷ name ∷ []) rs
    → snapshot_named (without_all rs ss) project instance name ≡ snapshot_named ss project instance name
found [] ss project instance name good goods other = refl
found (r ∷ rs) ss project instance name good goods other =
    found rs (without_one r ss) project instance name (Each-tail good) (Each-dropped _ goods) (Each-tail other)
    ∙ other-undropped snapshot_names ss (drops r ss (Each-head good) goods) (tells-snapshot project instance name)
    (Each-head other)

-- ---- the snapshots of an instance

-- whether it is a snapshot of this instance
abbrev is_of : List ℕ → List ℕ → Snapshot → Bool
is_of project instance r = cond (bytes_eq r.project project) (bytes_eq r.instance instance) false

Mem-unfilter : {X : Type 0} (p : X → Bool) (x : X) (xs : List X) → Mem x (filter p xs) → Mem x xs × (p x ≡ true)
Mem-unfilter p x [] m = absurd m
Mem-unfilter {X} p x (y ∷ ys) m = at (p y) refl m (Mem-unfilter p x ys) where
  at : (b : Bool) → p y ≡ b → Mem x (cond b (y ∷ filter p ys) (filter p ys))
      → (Mem x (filter p ys) → Mem x ys × (p x ≡ true)) → Mem x (y ∷ ys) × (p x ≡ true)
  at true is (inl e) more = (inl e, ap p e ∙ is)
  at true is (inr n) more = let rest = more n in (inr rest.0, rest.1)
  at false is n more = let rest = more n in (inr rest.0, rest.1)

of_names : (project instance : List ℕ) (r : Snapshot) → is_of project instance r ≡ true
    → (r.project ≡ project) × (r.instance ≡ instance)
of_names project instance r e = at (bytes_eq r.project project) refl e where
  at : (b : Bool) → bytes_eq r.project project ≡ b → cond b (bytes_eq r.instance instance) false ≡ true
      → (r.project ≡ project) × (r.instance ≡ instance)
  at true is e = (same r.project project is, same r.instance instance e)
  at false is e = cc

names_of : (project instance : List ℕ) (r : Snapshot) → r.project ≡ project → r.instance ≡ instance
    → is_of project instance r ≡ true
names_of project instance r e f =
    ap (λ b. cond b (bytes_eq r.instance instance) false) (ap (λ p. bytes_eq p project) e ∙ bytes_eq-itself project)
    ∙ ap (λ n. bytes_eq n instance) f ∙ bytes_eq-itself instance

pub snapshot-of : (s : State) (project instance : List ℕ) (r : Snapshot) → Mem r (snapshots_of s project instance)
    → Mem r s.snapshots × ((r.project ≡ project) × (r.instance ≡ instance))
snapshot-of s project instance r m = let found = Mem-unfilter (is_of project instance) r s.snapshots m in (found.0, of_names project instance r found.1)

-- the snapshots of other instances
abbrev pub without_those : State → List ℕ → List ℕ → List Snapshot
without_those s project instance = without_all (snapshots_of s project instance) s.snapshots

module _ (s : State) (project instance : List ℕ) (distinct : Distinct snapshot_names s.snapshots) (goods : Each (λ r. HasGoodKey (row.Snapshot r)) s.snapshots) where
  good_those : Each (λ r. HasGoodKey (row.Snapshot r)) (snapshots_of s project instance)
  good_those = record { at = λ r m. goods.at r (snapshot-of s project instance r m).0 }

  -- are of other instances
  pub left-snapshot : (y : Snapshot) → Mem y (without_those s project instance)
      → Mem y s.snapshots × ((y.project ∷ y.instance ∷ []) ≢ project ∷ instance ∷ [])
  left-snapshot y m = (
    was,
    λ e.
        let projects : y.project ≡ project = cc in
        let instances : y.instance ≡ instance = cc in
        gone (snapshots_of s project instance) y s.snapshots distinct good_those goods
        (Mem-filter (is_of project instance) y s.snapshots was (names_of project instance y projects instances)) m,
  ) where
    was : Mem y s.snapshots
    was = Mem-without (snapshots_of s project instance) y s.snapshots m

  -- and are found as before
  pub left-found : (p i name : List ℕ) → (p ∷ i ∷ []) ≢ project ∷ instance ∷ []
      → snapshot_named (without_those s project instance) p i name ≡ snapshot_named s.snapshots p i name
  left-found p i name other = found (snapshots_of s project instance) s.snapshots p i name good_those goods (record {
    at = λ r m e.
        let names = (snapshot-of s project instance r m).1 in
        let projects : r.project ≡ p = cc in
        let instances : r.instance ≡ i = cc in
        other (λ k. (sym projects ∙ names.0) k ∷ (sym instances ∙ names.1) k ∷ []);
  })

-- ---- puts

abbrev pub with_all : List Snapshot → List Snapshot → List Snapshot
with_all [] ss = ss
with_all (r ∷ rs) ss = with_all rs (with_snapshot r ss)

pub applied-puts : (f : Snapshot → Snapshot) (rs : List Snapshot) (s : State)
    → applied s (map change.Put (map (λ r. row.Snapshot (f r)) rs)) ≡ record s { snapshots = with_all (map f rs) s.snapshots }
applied-puts f [] s = refl
applied-puts f (r ∷ rs) s = applied-puts f rs (changed s (change.Put (row.Snapshot (f r))))

pub Mem-with : (rs : List Snapshot) (y : Snapshot) (ss : List Snapshot) → Mem y (with_all rs ss) → Mem y rs ⊎ Mem y ss
Mem-with [] y ss m = inr m
Mem-with (r ∷ rs) y ss m = elim (Mem-with rs y (with_snapshot r ss) m) [
  | inl n ↦ inl (inr n)
  | inr n ↦ elim (Mem-replaced (is_snapshot r.project r.instance r.name) (λ x. texts_before (snapshot_names r) (snapshot_names x)) r y ss n) [
    | inl e ↦ inl (inl e)
    | inr k ↦ inr k
  ]
]

pub with-still : (rs : List Snapshot) (ss : List Snapshot) (project instance name : List ℕ)
    → is_some (snapshot_named ss project instance name) ≡ true
    → is_some (snapshot_named (with_all rs ss) project instance name) ≡ true
with-still [] ss project instance name there = there
with-still (r ∷ rs) ss project instance name there =
    with-still rs (with_snapshot r ss) project instance name (snapshot-still r ss project instance name there)

-- ---- lists of changes

pub applied-append : (xs ys : List RowChange) (s : State) → applied s (xs ++ ys) ≡ applied (applied s xs) ys
applied-append [] ys s = refl
applied-append (x ∷ xs) ys s = applied-append xs ys (changed s x)
