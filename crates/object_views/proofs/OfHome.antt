-- Lists of volumes and of snapshots: of the rows of a project, those of a pool or of an instance.
use Rattle.std.proofs.Common.{◌≡◌, ℕ, Bool, true, false, ◌&&◌, cond, List, [], ◌∷◌, filter, map, refl, sym, ap, subst, ◌∙◌}
use Rattle.std.specs.Str.{bytes_eq}
use Rattle.row_machine.specs.Words.{Row, Target}
use Rattle.row_machine.specs.Words.kind
use Rattle.row_machine.specs.Words.row
use Rattle.records.specs.declared.rows.Snapshot.{Snapshot}
use Rattle.records.specs.declared.rows.Volume.{Volume}
use Rattle.row_machine.specs.machine.Homes.{home_of}
use Rattle.row_machine.specs.machine.State.{State}
use Rattle.row_machine.specs.shown.Views.{listed}

-- the rows that pass one test, of those that pass another, pass both
filtered-twice : {X : Type 0} (p q both : X → Bool) → ((x : X) → both x ≡ cond (p x) (q x) false)
    → (xs : List X) → filter q (filter p xs) ≡ filter both xs
filtered-twice p q both h [] = refl
filtered-twice {X} p q both h (x ∷ xs) = at (p x) (h x) (filtered-twice p q both h xs) where
  of : Bool → List X
  of c = cond c (x ∷ filter both xs) (filter both xs)

  at : (b : Bool) → both x ≡ cond b (q x) false → filter q (filter p xs) ≡ filter both xs
      → filter q (cond b (x ∷ filter p xs) (filter p xs)) ≡ of (both x)
  at true is more = ap (λ ys. cond (q x) (x ∷ ys) ys) more ∙ sym (ap of is)
  at false is more = more ∙ sym (ap of is)

both-are : (a b : Bool) → (a && b) ≡ cond a b false
both-are true b = refl
both-are false b = refl

-- the volumes of a home and a pool
abbrev volumes_at : List ℕ → List ℕ → List Volume → List Row
volumes_at home pool all = map row.Volume (filter (λ v. bytes_eq v.project home && bytes_eq v.pool pool) all)

pub volumes-listed : (s : State) (project : List ℕ) (of : Target) (home pool : List ℕ) (all rows : List Volume)
    → of.kind ≡ kind.Volume → home ≡ home_of s.projects project kind.Volume → pool ≡ of.pool → all ≡ s.volumes
    → rows ≡ filter (λ v. bytes_eq v.project home) all
    → map row.Volume (filter (λ v. bytes_eq v.pool pool) rows) ≡ listed s project of
volumes-listed s project of home pool all rows is home_is pool_is all_is rows_are =
    let own : List ℕ = home_of s.projects project kind.Volume in
    let found : List Row = volumes_at own of.pool s.volumes in
    ap (λ vs. map row.Volume (filter (λ v. bytes_eq v.pool pool) vs)) rows_are
    ∙ ap (map row.Volume) (filtered-twice (λ v. bytes_eq v.project home) (λ v. bytes_eq v.pool pool) (λ v. bytes_eq v.project home && bytes_eq v.pool pool) (λ v. both-are (bytes_eq v.project home) (bytes_eq v.pool pool)) all)
    ∙ ap (λ h. volumes_at h pool all) home_is
    ∙ ap (λ p. volumes_at own p all) pool_is
    ∙ ap (volumes_at own of.pool) all_is
    ∙ subst (λ k. found ≡ listed s project (record of { kind = k })) (sym is) refl

-- the snapshots of an instance of a project
abbrev snapshots_at : List ℕ → List ℕ → List Snapshot → List Row
snapshots_at project instance all = map row.Snapshot (filter (λ t. cond (bytes_eq t.project project) (bytes_eq t.instance instance) false) all)

pub snapshots-listed : (s : State) (project : List ℕ) (of : Target) (instance : List ℕ) (all rows : List Snapshot)
    → of.kind ≡ kind.Snapshot → instance ≡ of.instance → all ≡ s.snapshots
    → rows ≡ filter (λ t. bytes_eq t.project project) all
    → map row.Snapshot (filter (λ t. bytes_eq t.instance instance) rows) ≡ listed s project of
snapshots-listed s project of instance all rows is instance_is all_is rows_are =
    let found : List Row = snapshots_at project of.instance s.snapshots in
    ap (λ ts. map row.Snapshot (filter (λ t. bytes_eq t.instance instance) ts)) rows_are
    ∙ ap (map row.Snapshot) (filtered-twice (λ t. bytes_eq t.project project) (λ t. bytes_eq t.instance instance) (λ t. cond (bytes_eq t.project project) (bytes_eq t.instance instance) false) (λ t. refl) all)
    ∙ ap (λ i. snapshots_at project i all) instance_is
    ∙ ap (snapshots_at project of.instance) all_is
    ∙ subst (λ k. found ≡ listed s project (record of { kind = k })) (sym is) refl
