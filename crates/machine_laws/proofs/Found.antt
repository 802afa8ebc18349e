-- What a look-up by names finds has these names.
use Rattle.std.proofs.Common.{◌≡◌, ℕ, true, false, ◌&&◌, Option, Some, None, List, refl, sym, ap, subst, ◌∙◌}
use Rattle.std.specs.Option.{is_some, is_none}
use Rattle.std.specs.Str.{bytes_eq}
use Rattle.plain_lists.proofs.Searches.{find-some}
use Rattle.config_lists.proofs.Keys.{same}
use Rattle.records.specs.declared.rows.Project.{Project}
use Rattle.records.specs.declared.rows.Profile.{Profile}
use Rattle.records.specs.declared.rows.Network.{Network}
use Rattle.records.specs.declared.rows.Pool.{Pool}
use Rattle.records.specs.declared.rows.Volume.{Volume}
use Rattle.records.specs.declared.rows.Instance.{Instance}
use Rattle.records.specs.declared.rows.Snapshot.{Snapshot}
use Rattle.row_codec.proofs.Fields.{both_true}
use Rattle.row_machine.specs.machine.Rows.{is_project, is_profile, is_network, is_pool, is_volume, is_instance, is_snapshot, project_named, profile_named, network_named, pool_named, volume_named, instance_named, snapshot_named}

-- ---- options

pub some-is : {X : Type 0} {x y : X} → Some x ≡ Some y → x ≡ y
some-is e = cc

pub there-is : {X : Type 0} (o : Option X) → is_some o ≡ true → (x : X) × (o ≡ Some x)
there-is None e = cc
there-is (Some x) e = (x, refl)

pub some-there : {X : Type 0} {o : Option X} {x : X} → o ≡ Some x → is_some o ≡ true
some-there e = ap is_some e

pub not-none : {X : Type 0} (o : Option X) → is_none o ≡ false → is_some o ≡ true
not-none None e = cc
not-none (Some x) e = refl

pub not-there : {X : Type 0} (o : Option X) → is_some o ≡ false → o ≡ None
not-there None e = refl
not-there (Some x) e = cc

-- ---- two and three tests

pub two_same : (a b c d : List ℕ) → (bytes_eq a b && bytes_eq c d) ≡ true → (a ≡ b) × (c ≡ d)
two_same a b c d e = let parts = both_true (bytes_eq a b) (bytes_eq c d) e in (same a b parts.0, same c d parts.1)

pub three_same : (a b c d e f : List ℕ) → (bytes_eq a b && bytes_eq c d && bytes_eq e f) ≡ true → (a ≡ b) × ((c ≡ d) × (e ≡ f))
three_same a b c d e f h =
    let parts = both_true (bytes_eq a b && bytes_eq c d) (bytes_eq e f) h in
    let front = two_same a b c d parts.0 in
    (front.0, (front.1, same e f parts.1))

-- ---- rows by their names

pub project-found : (rows : List Project) (name : List ℕ) (r : Project) → project_named rows name ≡ Some r → r.name ≡ name
project-found rows name r e = same r.name name (find-some (is_project name) rows r e).1

pub profile-found : (rows : List Profile) (project name : List ℕ) (r : Profile) → profile_named rows project name ≡ Some r
    → (r.project ≡ project) × (r.name ≡ name)
profile-found rows project name r e = two_same r.project project r.name name (find-some (is_profile project name) rows r e).1

pub network-found : (rows : List Network) (project name : List ℕ) (r : Network) → network_named rows project name ≡ Some r
    → (r.project ≡ project) × (r.name ≡ name)
network-found rows project name r e = two_same r.project project r.name name (find-some (is_network project name) rows r e).1

pub pool-found : (rows : List Pool) (name : List ℕ) (r : Pool) → pool_named rows name ≡ Some r → r.name ≡ name
pool-found rows name r e = same r.name name (find-some (is_pool name) rows r e).1

pub volume-found : (rows : List Volume) (project pool name : List ℕ) (r : Volume) → volume_named rows project pool name ≡ Some r
    → (r.project ≡ project) × ((r.pool ≡ pool) × (r.name ≡ name))
volume-found rows project pool name r e =
    three_same r.project project r.pool pool r.name name (find-some (is_volume project pool name) rows r e).1

pub instance-found : (rows : List Instance) (project name : List ℕ) (r : Instance) → instance_named rows project name ≡ Some r
    → (r.project ≡ project) × (r.name ≡ name)
instance-found rows project name r e = two_same r.project project r.name name (find-some (is_instance project name) rows r e).1

pub snapshot-found : (rows : List Snapshot) (project instance name : List ℕ) (r : Snapshot) → snapshot_named rows project instance name ≡ Some r
    → (r.project ≡ project) × ((r.instance ≡ instance) × (r.name ≡ name))
snapshot-found rows project instance name r e =
    three_same r.project project r.instance instance r.name name (find-some (is_snapshot project instance name) rows r e).1

-- ---- a row that was found is found under its own names

pub project-itself : (rows : List Project) (name : List ℕ) (r : Project) → project_named rows name ≡ Some r → project_named rows r.name ≡ Some r
project-itself rows name r e = subst (λ n. project_named rows n ≡ Some r) (sym (project-found rows name r e)) e

pub profile-itself : (rows : List Profile) (project name : List ℕ) (r : Profile) → profile_named rows project name ≡ Some r
    → profile_named rows r.project r.name ≡ Some r
profile-itself rows project name r e =
    let names = profile-found rows project name r e in
    ap (λ p. profile_named rows p r.name) names.0 ∙ ap (profile_named rows project) names.1 ∙ e

pub network-itself : (rows : List Network) (project name : List ℕ) (r : Network) → network_named rows project name ≡ Some r
    → network_named rows r.project r.name ≡ Some r
network-itself rows project name r e =
    let names = network-found rows project name r e in
    ap (λ p. network_named rows p r.name) names.0 ∙ ap (network_named rows project) names.1 ∙ e

pub pool-itself : (rows : List Pool) (name : List ℕ) (r : Pool) → pool_named rows name ≡ Some r → pool_named rows r.name ≡ Some r
pool-itself rows name r e = subst (λ n. pool_named rows n ≡ Some r) (sym (pool-found rows name r e)) e

pub volume-itself : (rows : List Volume) (project pool name : List ℕ) (r : Volume) → volume_named rows project pool name ≡ Some r
    → volume_named rows r.project r.pool r.name ≡ Some r
volume-itself rows project pool name r e =
    let names = volume-found rows project pool name r e in
    ap (λ p. volume_named rows p r.pool r.name) names.0 ∙ ap (λ p. volume_named rows project p r.name) names.1.0
    ∙ ap (volume_named rows project pool) names.1.1 ∙ e

pub instance-itself : (rows : List Instance) (project name : List ℕ) (r : Instance) → instance_named rows project name ≡ Some r
    → instance_named rows r.project r.name ≡ Some r
instance-itself rows project name r e =
    let names = instance-found rows project name r e in
    ap (λ p. instance_named rows p r.name) names.0 ∙ ap (instance_named rows project) names.1 ∙ e

pub snapshot-itself : (rows : List Snapshot) (project instance name : List ℕ) (r : Snapshot) → snapshot_named rows project instance name ≡ Some r
    → snapshot_named rows r.project r.instance r.name ≡ Some r
snapshot-itself rows project instance name r e =
    let names = snapshot-found rows project instance name r e in
    ap (λ p. snapshot_named rows p r.instance r.name) names.0 ∙ ap (λ p. snapshot_named rows project p r.name) names.1.0
    ∙ ap (snapshot_named rows project instance) names.1.1 ∙ e
