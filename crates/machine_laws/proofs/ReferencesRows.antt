-- Rows of each kind that are still found after one was put or removed.
use Rattle.std.proofs.Common.{◌≡◌, ◌≢◌, ℕ, true, Some, List, [], ◌∷◌, refl}
use Rattle.std.specs.Option.{is_some}
use Rattle.plain_lists.specs.Members.{Mem, Each}
use Rattle.plain_lists.specs.Edits.{dropped}
use Rattle.plain_lists.proofs.EditLemmas.{find-put, Each-Replaces, replaced-is}
use Rattle.records.specs.declared.rows.Project.{Project}
use Rattle.records.specs.declared.rows.Profile.{Profile}
use Rattle.records.specs.declared.rows.Network.{Network}
use Rattle.records.specs.declared.rows.Pool.{Pool}
use Rattle.records.specs.declared.rows.Volume.{Volume}
use Rattle.records.specs.declared.rows.Instance.{Instance}
use Rattle.records.specs.declared.rows.Snapshot.{Snapshot}
use Rattle.records.specs.declared.rows.Row.TheVariants as row
use Rattle.row_codec.specs.Spelling.{key_of}
use Rattle.row_machine.specs.machine.State.{State}
use Rattle.row_machine.specs.machine.Rows.{texts_before, is_project, project_names, project_named, with_project, is_profile, profile_names, with_profile, is_network, is_pool, is_volume, is_instance, is_snapshot, network_names, pool_names, volume_names, instance_names, snapshot_names, with_network, with_pool, with_volume, with_instance, with_snapshot, network_named, pool_named, volume_named, instance_named, snapshot_named}
use Rattle.row_machine.specs.machine.Changes.{has_key}
use Rattle.row_machine.specs.facts.Whole.{AreNamed}
use Rattle.machine_laws.proofs.ReferencesFinds.{still-there, other-found, other-undropped}
use Rattle.machine_laws.proofs.ReferencesKeys.{tells-project, tells-network, tells-pool, tells-volume, tells-instance, tells-snapshot, drops-network, drops-pool, drops-volume, drops-instance, drops-snapshot}

-- ---- networks

pub network-still : (r : Network) (rs : List Network) (project name : List ℕ)
    → is_some (network_named rs project name) ≡ true → is_some (network_named (with_network r rs) project name) ≡ true
network-still r rs project name there =
    still-there network_names (λ y. texts_before (network_names r) (network_names y)) r rs
    (tells-network r.project r.name) (tells-network project name) there

pub network-put : (r : Network) (rs : List Network) → network_named (with_network r rs) r.project r.name ≡ Some r
network-put r rs =
    find-put (is_network r.project r.name) (λ y. texts_before (network_names r) (network_names y)) r rs
    ((tells-network r.project r.name).passes r refl)

pub network-other : (r : Network) (rs : List Network) (project name : List ℕ) → network_names r ≢ project ∷ name ∷ []
    → network_named (with_network r rs) project name ≡ network_named rs project name
network-other r rs project name other =
    other-found network_names (λ y. texts_before (network_names r) (network_names y)) r rs
    (tells-network r.project r.name) (tells-network project name) other

pub network-unremoved : {s : State} (x : Network) (project name : List ℕ) → AreNamed s → Mem x s.networks
    → network_names x ≢ project ∷ name ∷ []
    → network_named (dropped (λ y. has_key (key_of (row.Network x)) (row.Network y)) s.networks) project name ≡ network_named s.networks project name
network-unremoved {s} x project name h there other =
    other-undropped network_names s.networks (drops-network x h there) (tells-network project name) other

-- ---- pools

pub pool-still : (r : Pool) (rs : List Pool) (name : List ℕ) → is_some (pool_named rs name) ≡ true
    → is_some (pool_named (with_pool r rs) name) ≡ true
pool-still r rs name there =
    still-there pool_names (λ y. texts_before (pool_names r) (pool_names y)) r rs (tells-pool r.name)
    (tells-pool name) there

pub pool-put : (r : Pool) (rs : List Pool) → pool_named (with_pool r rs) r.name ≡ Some r
pool-put r rs =
    find-put (is_pool r.name) (λ y. texts_before (pool_names r) (pool_names y)) r rs
    ((tells-pool r.name).passes r refl)

pub pool-other : (r : Pool) (rs : List Pool) (name : List ℕ) → pool_names r ≢ name ∷ []
    → pool_named (with_pool r rs) name ≡ pool_named rs name
pool-other r rs name other =
    other-found pool_names (λ y. texts_before (pool_names r) (pool_names y)) r rs (tells-pool r.name)
    (tells-pool name) other

pub pool-unremoved : {s : State} (x : Pool) (name : List ℕ) → AreNamed s → Mem x s.pools → pool_names x ≢ name ∷ []
    → pool_named (dropped (λ y. has_key (key_of (row.Pool x)) (row.Pool y)) s.pools) name ≡ pool_named s.pools name
pool-unremoved {s} x name h there other =
    other-undropped pool_names s.pools (drops-pool x h there) (tells-pool name) other

-- ---- volumes

pub volume-still : (r : Volume) (rs : List Volume) (project pool name : List ℕ)
    → is_some (volume_named rs project pool name) ≡ true
    → is_some (volume_named (with_volume r rs) project pool name) ≡ true
volume-still r rs project pool name there =
    still-there volume_names (λ y. texts_before (volume_names r) (volume_names y)) r rs
    (tells-volume r.project r.pool r.name) (tells-volume project pool name) there

pub volume-put : (r : Volume) (rs : List Volume) → volume_named (with_volume r rs) r.project r.pool r.name ≡ Some r
volume-put r rs =
    find-put (is_volume r.project r.pool r.name) (λ y. texts_before (volume_names r) (volume_names y)) r rs
    ((tells-volume r.project r.pool r.name).passes r refl)

pub volume-other : (r : Volume) (rs : List Volume) (project pool name : List ℕ)
    → volume_names r ≢ project ∷ pool ∷ name ∷ []
    → volume_named (with_volume r rs) project pool name ≡ volume_named rs project pool name
volume-other r rs project pool name other =
    other-found volume_names (λ y. texts_before (volume_names r) (volume_names y)) r rs
    (tells-volume r.project r.pool r.name) (tells-volume project pool name) other

pub volume-unremoved : {s : State} (x : Volume) (project pool name : List ℕ) → AreNamed s → Mem x s.volumes
    → volume_names x ≢ project ∷ pool ∷ name ∷ []
    → volume_named (dropped (λ y. has_key (key_of (row.Volume x)) (row.Volume y)) s.volumes) project pool name ≡ volume_named s.volumes project pool name
volume-unremoved {s} x project pool name h there other =
    other-undropped volume_names s.volumes (drops-volume x h there) (tells-volume project pool name) other

-- ---- instances

pub instance-still : (r : Instance) (rs : List Instance) (project name : List ℕ)
    → is_some (instance_named rs project name) ≡ true
    → is_some (instance_named (with_instance r rs) project name) ≡ true
instance-still r rs project name there =
    still-there instance_names (λ y. texts_before (instance_names r) (instance_names y)) r rs
    (tells-instance r.project r.name) (tells-instance project name) there

pub instance-put : (r : Instance) (rs : List Instance) → instance_named (with_instance r rs) r.project r.name ≡ Some r
instance-put r rs =
    find-put (is_instance r.project r.name) (λ y. texts_before (instance_names r) (instance_names y)) r rs
    ((tells-instance r.project r.name).passes r refl)

pub instance-other : (r : Instance) (rs : List Instance) (project name : List ℕ)
    → instance_names r ≢ project ∷ name ∷ []
    → instance_named (with_instance r rs) project name ≡ instance_named rs project name
instance-other r rs project name other =
    other-found instance_names (λ y. texts_before (instance_names r) (instance_names y)) r rs
    (tells-instance r.project r.name) (tells-instance project name) other

pub instance-unremoved : {s : State} (x : Instance) (project name : List ℕ) → AreNamed s → Mem x s.instances
    → instance_names x ≢ project ∷ name ∷ []
    → instance_named (dropped (λ y. has_key (key_of (row.Instance x)) (row.Instance y)) s.instances) project name ≡ instance_named s.instances project name
instance-unremoved {s} x project name h there other =
    other-undropped instance_names s.instances (drops-instance x h there) (tells-instance project name) other

-- ---- snapshots

pub snapshot-still : (r : Snapshot) (rs : List Snapshot) (project instance name : List ℕ)
    → is_some (snapshot_named rs project instance name) ≡ true
    → is_some (snapshot_named (with_snapshot r rs) project instance name) ≡ true
snapshot-still r rs project instance name there =
    still-there snapshot_names (λ y. texts_before (snapshot_names r) (snapshot_names y)) r rs
    (tells-snapshot r.project r.instance r.name) (tells-snapshot project instance name) there

pub snapshot-put : (r : Snapshot) (rs : List Snapshot)
    → snapshot_named (with_snapshot r rs) r.project r.instance r.name ≡ Some r
snapshot-put r rs =
    find-put (is_snapshot r.project r.instance r.name) (λ y. texts_before (snapshot_names r) (snapshot_names y)) r rs
    ((tells-snapshot r.project r.instance r.name).passes r refl)

pub snapshot-other : (r : Snapshot) (rs : List Snapshot) (project instance name : List ℕ)
    → snapshot_names r ≢ project ∷ instance ∷ name ∷ []
    → snapshot_named (with_snapshot r rs) project instance name ≡ snapshot_named rs project instance name
snapshot-other r rs project instance name other =
    other-found snapshot_names (λ y. texts_before (snapshot_names r) (snapshot_names y)) r rs
    (tells-snapshot r.project r.instance r.name) (tells-snapshot project instance name) other

pub snapshot-unremoved : {s : State} (x : Snapshot) (project instance name : List ℕ) → AreNamed s → Mem x s.snapshots
    → snapshot_names x ≢ project ∷ instance ∷ name ∷ []
    → snapshot_named (dropped (λ y. has_key (key_of (row.Snapshot x)) (row.Snapshot y)) s.snapshots) project instance name ≡ snapshot_named s.snapshots project instance name
snapshot-unremoved {s} x project instance name h there other =
    other-undropped snapshot_names s.snapshots (drops-snapshot x h there) (tells-snapshot project instance name) other

-- ---- projects

pub project-put : (r : Project) (rs : List Project) → project_named (with_project r rs) r.name ≡ Some r
project-put r rs =
    find-put (is_project r.name) (λ y. texts_before (project_names r) (project_names y)) r rs
    ((tells-project r.name).passes r refl)

-- ---- a fact on each row after one was put

pub profile-each : (P : Profile → Type 0) (r : Profile) (rs : List Profile) → P r → Each P rs
    → Each P (with_profile r rs)
profile-each P r rs own rest = Each-Replaces P
    (replaced-is (is_profile r.project r.name) (λ y. texts_before (profile_names r) (profile_names y)) r rs) own rest

pub network-each : (P : Network → Type 0) (r : Network) (rs : List Network) → P r → Each P rs
    → Each P (with_network r rs)
network-each P r rs own rest = Each-Replaces P
    (replaced-is (is_network r.project r.name) (λ y. texts_before (network_names r) (network_names y)) r rs) own rest

pub volume-each : (P : Volume → Type 0) (r : Volume) (rs : List Volume) → P r → Each P rs → Each P (with_volume r rs)
volume-each P r rs own rest = Each-Replaces P
    (replaced-is (is_volume r.project r.pool r.name) (λ y. texts_before (volume_names r) (volume_names y)) r rs) own
    rest

pub instance-each : (P : Instance → Type 0) (r : Instance) (rs : List Instance) → P r → Each P rs
    → Each P (with_instance r rs)
instance-each P r rs own rest = Each-Replaces P
    (replaced-is (is_instance r.project r.name) (λ y. texts_before (instance_names r) (instance_names y)) r rs) own
    rest

pub snapshot-each : (P : Snapshot → Type 0) (r : Snapshot) (rs : List Snapshot) → P r → Each P rs
    → Each P (with_snapshot r rs)
snapshot-each P r rs own rest = Each-Replaces P
    (replaced-is (is_snapshot r.project r.instance r.name) (λ y. texts_before (snapshot_names r) (snapshot_names y)) r rs)
    own rest
