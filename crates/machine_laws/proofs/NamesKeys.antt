-- Keys of rows with good names tell their names, so rows of one kind have distinct keys.
use Rattle.std.proofs.Common.{◌≡◌, ℕ, Bool, true, false, cond, List, [], ◌∷◌, filter, ap}
use Rattle.plain_lists.specs.Members.{Each, Distinct}
use Rattle.plain_lists.proofs.Elements.{Each-left}
use Rattle.size_values.specs.declared.kinds.ObjectKind.{ObjectKind}
use Rattle.size_values.specs.declared.kinds.ObjectKind.TheVariants as kind
use Rattle.records.specs.declared.rows.Project.{Project}
use Rattle.records.specs.declared.rows.Profile.{Profile}
use Rattle.records.specs.declared.rows.Network.{Network}
use Rattle.records.specs.declared.rows.Pool.{Pool}
use Rattle.records.specs.declared.rows.Volume.{Volume}
use Rattle.records.specs.declared.rows.Instance.{Instance}
use Rattle.records.specs.declared.rows.Snapshot.{Snapshot}
use Rattle.records.specs.declared.rows.Row.TheVariants as row
use Rattle.row_codec.specs.Rows.{IsGood, HasGoodKey}
use Rattle.row_codec.specs.Spelling.{key_of, two_names, three_names}
use Rattle.row_codec.proofs.Names.{two_again, three_again}
use Rattle.row_machine.specs.machine.State.{State}
use Rattle.row_machine.specs.machine.Rows.{project_names, profile_names, network_names, pool_names, volume_names, instance_names, snapshot_names}
use Rattle.row_machine.specs.facts.Whole.{AreNamed, claims_of}
use Rattle.machine_laws.proofs.NamesRise.{rise_distinct}
use Rattle.machine_laws.proofs.NamesRows.{EachRow, each-row}
use Rattle.machine_laws.proofs.NamesSuccess.{Mem-filter}

pub two-tell : (first second : ObjectKind) (a b c d : List ℕ) → IsGood first a → IsGood second b → IsGood first c → IsGood second d
    → two_names a b ≡ two_names c d → (a ∷ b ∷ []) ≡ (c ∷ d ∷ [])
two-tell first second a b c d good_a good_b good_c good_d e =
    let left = two_again first second a b good_a good_b in
    let right = two_again first second c d good_c good_d in
    let one : List ℕ × List ℕ = (a, b) in
    let other : List ℕ × List ℕ = (c, d) in
    let pair : one ≡ other = cc in
    λ i. (pair i).0 ∷ (pair i).1 ∷ []

pub three-tell : (first second third : ObjectKind) (a b c d e f : List ℕ) → IsGood first a → IsGood second b → IsGood third c
    → IsGood first d → IsGood second e → IsGood third f
    → three_names a b c ≡ three_names d e f → (a ∷ b ∷ c ∷ []) ≡ (d ∷ e ∷ f ∷ [])
three-tell first second third a b c d e f good_a good_b good_c good_d good_e good_f same =
    let left = three_again first second third a b c good_a good_b good_c in
    let right = three_again first second third d e f good_d good_e good_f in
    let one : List ℕ × List ℕ × List ℕ = (a, b, c) in
    let other : List ℕ × List ℕ × List ℕ = (d, e, f) in
    let all : one ≡ other = cc in
    λ i. (all i).0 ∷ (all i).1 ∷ (all i).2 ∷ []

-- ---- by kind: one key, one name

pub project-key : (x y : Project) → key_of (row.Project y) ≡ key_of (row.Project x) → project_names y ≡ project_names x
project-key x y e = ap (λ n. n ∷ []) e

pub pool-key : (x y : Pool) → key_of (row.Pool y) ≡ key_of (row.Pool x) → pool_names y ≡ pool_names x
pool-key x y e = ap (λ n. n ∷ []) e

pub profile-key : (x y : Profile) → HasGoodKey (row.Profile x) → HasGoodKey (row.Profile y)
    → key_of (row.Profile y) ≡ key_of (row.Profile x) → profile_names y ≡ profile_names x
profile-key x y gx gy e = two-tell kind.Project kind.Profile y.project y.name x.project x.name gy.0 gy.1 gx.0 gx.1 e

pub network-key : (x y : Network) → HasGoodKey (row.Network x) → HasGoodKey (row.Network y)
    → key_of (row.Network y) ≡ key_of (row.Network x) → network_names y ≡ network_names x
network-key x y gx gy e = two-tell kind.Project kind.Network y.project y.name x.project x.name gy.0 gy.1 gx.0 gx.1 e

pub volume-key : (x y : Volume) → HasGoodKey (row.Volume x) → HasGoodKey (row.Volume y)
    → key_of (row.Volume y) ≡ key_of (row.Volume x) → volume_names y ≡ volume_names x
volume-key x y gx gy e = three-tell kind.Project kind.Pool kind.Volume y.project y.pool y.name x.project x.pool x.name gy.0 gy.1 gy.2 gx.0 gx.1 gx.2 e

pub instance-key : (x y : Instance) → HasGoodKey (row.Instance x) → HasGoodKey (row.Instance y)
    → key_of (row.Instance y) ≡ key_of (row.Instance x) → instance_names y ≡ instance_names x
instance-key x y gx gy e = two-tell kind.Project kind.Instance y.project y.name x.project x.name gy.0 gy.1 gx.0 gx.1 e

pub snapshot-key : (x y : Snapshot) → HasGoodKey (row.Snapshot x) → HasGoodKey (row.Snapshot y)
    → key_of (row.Snapshot y) ≡ key_of (row.Snapshot x) → snapshot_names y ≡ snapshot_names x
snapshot-key x y gx gy e =
    three-tell kind.Project kind.Instance kind.Snapshot y.project y.instance y.name x.project x.instance x.name gy.0 gy.1 gy.2 gx.0 gx.1 gx.2 e

-- ---- the keys of the rows of a state

pub record HasDistinctKeys (s : State) : Type 0 where
  pub projects : Distinct (λ r. key_of (row.Project r)) s.projects
  pub profiles : Distinct (λ r. key_of (row.Profile r)) s.profiles
  pub networks : Distinct (λ r. key_of (row.Network r)) s.networks
  pub pools : Distinct (λ r. key_of (row.Pool r)) s.pools
  pub volumes : Distinct (λ r. key_of (row.Volume r)) s.volumes
  pub instances : Distinct (λ r. key_of (row.Instance r)) s.instances
  pub snapshots : Distinct (λ r. key_of (row.Snapshot r)) s.snapshots

pub distinct-keys : (s : State) → AreNamed s → HasDistinctKeys s
distinct-keys s h = record {
  projects = rise_distinct project_names (λ r. key_of (row.Project r)) s.projects h.projects (λ x y m n e. project-key x y e);
  profiles = rise_distinct profile_names (λ r. key_of (row.Profile r)) s.profiles h.profiles (λ x y m n e. profile-key x y (good.profiles.at x m) (good.profiles.at y n) e);
  networks = rise_distinct network_names (λ r. key_of (row.Network r)) s.networks h.networks (λ x y m n e. network-key x y (good.networks.at x m) (good.networks.at y n) e);
  pools = rise_distinct pool_names (λ r. key_of (row.Pool r)) s.pools h.pools (λ x y m n e. pool-key x y e);
  volumes = rise_distinct volume_names (λ r. key_of (row.Volume r)) s.volumes h.volumes (λ x y m n e. volume-key x y (good.volumes.at x m) (good.volumes.at y n) e);
  instances = rise_distinct instance_names (λ r. key_of (row.Instance r)) s.instances h.instances (λ x y m n e. instance-key x y (good.instances.at x m) (good.instances.at y n) e);
  snapshots = rise_distinct snapshot_names (λ r. key_of (row.Snapshot r)) s.snapshots h.snapshots (λ x y m n e. snapshot-key x y (good.snapshots.at x m) (good.snapshots.at y n) e);
} where
  good : EachRow HasGoodKey s
  good = each-row s (Each-left (claims_of s) h.good)

-- ---- of a part of a list

pub Each-filter : {X : Type 0} {P : X → Type 0} (p : X → Bool) {xs : List X} → Each P xs → Each P (filter p xs)
Each-filter p {xs} e = record { at = λ x m. e.at x (Mem-filter p x xs m) }

pub Distinct-filter : {X K : Type 0} (key : X → K) (p : X → Bool) (xs : List X) → Distinct key xs → Distinct key (filter p xs)
Distinct-filter key p [] d = d
Distinct-filter {X} key p (x ∷ xs) d = at (p x) (Distinct-filter key p xs d.1) where
  at : (b : Bool) → Distinct key (filter p xs) → Distinct key (cond b (x ∷ filter p xs) (filter p xs))
  at true more = (Each-filter p d.0, more)
  at false more = more
