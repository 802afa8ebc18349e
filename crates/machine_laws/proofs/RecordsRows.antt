-- A row put or removed changes the section of its kind as its entry does.
use Rattle.std.proofs.Common.{◌≡◌, ℕ, Bool, List, refl, ◌∙◌}
use Rattle.config_lists.proofs.Keys.{bytes_eq-order}
use Rattle.size_values.specs.declared.kinds.ObjectKind.TheVariants as kind
use Rattle.record_keeper.specs.Entries.{put_entry, remove_entry}
use Rattle.records.specs.declared.rows.Project.{Project}
use Rattle.records.specs.declared.rows.Profile.{Profile}
use Rattle.records.specs.declared.rows.Network.{Network}
use Rattle.records.specs.declared.rows.Pool.{Pool}
use Rattle.records.specs.declared.rows.Volume.{Volume}
use Rattle.records.specs.declared.rows.Instance.{Instance}
use Rattle.records.specs.declared.rows.Snapshot.{Snapshot}
use Rattle.records.specs.declared.rows.Row.TheVariants as row
use Rattle.row_codec.specs.Spelling.{key_of}
use Rattle.row_machine.specs.machine.State.{State}
use Rattle.row_machine.specs.machine.Rows.{texts_before, project_names, profile_names, network_names, pool_names, volume_names, instance_names, snapshot_names, is_project, is_profile, is_network, is_pool, is_volume, is_instance, is_snapshot}
use Rattle.row_machine.specs.machine.Changes.{with_row, without_row, has_key}
use Rattle.row_machine.specs.facts.Whole.{AreNamed}
use Rattle.machine_laws.proofs.NamesLists.{Mem-put}
use Rattle.machine_laws.proofs.NamesBegin.{good_rows}
use Rattle.machine_laws.proofs.NamesKeys.{distinct-keys}
use Rattle.machine_laws.proofs.RecordsSections.{put-section, remove-section}
use Rattle.machine_laws.proofs.RecordsKeys.{profile-tells, network-tells, volume-tells, instance-tells, snapshot-tells}
use Rattle.machine_laws.proofs.RecordsOrdered.{project_entry, profile_entry, network_entry, pool_entry, volume_entry, instance_entry, snapshot_entry, sections_of}

-- ---- in the section of its kind

pub project-section : (s : State) (r : Project) → AreNamed s → AreNamed (with_row (row.Project r) s)
    → put_entry (project_entry r) (sections_of s).projects ≡ (sections_of (with_row (row.Project r) s)).projects
project-section s r h after =
    put-section project_entry 1 (λ y. refl) (is_project r.name) before r s.projects
    (distinct-keys s h).projects (distinct-keys (with_row (row.Project r) s) after).projects
    (record { at = λ y m. bytes_eq-order y.name r.name })
  where
    before : Project → Bool
    before y = texts_before (project_names r) (project_names y)

pub profile-section : (s : State) (r : Profile) → AreNamed s → AreNamed (with_row (row.Profile r) s)
    → put_entry (profile_entry r) (sections_of s).profiles ≡ (sections_of (with_row (row.Profile r) s)).profiles
profile-section s r h after =
    let good = (good_rows (with_row (row.Profile r) s) after).profiles.at r (Mem-put (is_profile r.project r.name) before r s.profiles) in
    put-section profile_entry 2 (λ y. refl) (is_profile r.project r.name) before r s.profiles
    (distinct-keys s h).profiles (distinct-keys (with_row (row.Profile r) s) after).profiles
    (record { at = λ y m. profile-tells r y good ((good_rows s h).profiles.at y m) ∙ bytes_eq-order (key_of (row.Profile y)) (key_of (row.Profile r)) })
  where
    before : Profile → Bool
    before y = texts_before (profile_names r) (profile_names y)

pub network-section : (s : State) (r : Network) → AreNamed s → AreNamed (with_row (row.Network r) s)
    → put_entry (network_entry r) (sections_of s).networks ≡ (sections_of (with_row (row.Network r) s)).networks
network-section s r h after =
    let good = (good_rows (with_row (row.Network r) s) after).networks.at r (Mem-put (is_network r.project r.name) before r s.networks) in
    put-section network_entry 3 (λ y. refl) (is_network r.project r.name) before r s.networks
    (distinct-keys s h).networks (distinct-keys (with_row (row.Network r) s) after).networks
    (record { at = λ y m. network-tells r y good ((good_rows s h).networks.at y m) ∙ bytes_eq-order (key_of (row.Network y)) (key_of (row.Network r)) })
  where
    before : Network → Bool
    before y = texts_before (network_names r) (network_names y)

pub pool-section : (s : State) (r : Pool) → AreNamed s → AreNamed (with_row (row.Pool r) s)
    → put_entry (pool_entry r) (sections_of s).pools ≡ (sections_of (with_row (row.Pool r) s)).pools
pool-section s r h after =
    put-section pool_entry 4 (λ y. refl) (is_pool r.name) before r s.pools
    (distinct-keys s h).pools (distinct-keys (with_row (row.Pool r) s) after).pools
    (record { at = λ y m. bytes_eq-order y.name r.name })
  where
    before : Pool → Bool
    before y = texts_before (pool_names r) (pool_names y)

pub volume-section : (s : State) (r : Volume) → AreNamed s → AreNamed (with_row (row.Volume r) s)
    → put_entry (volume_entry r) (sections_of s).volumes ≡ (sections_of (with_row (row.Volume r) s)).volumes
volume-section s r h after =
    let good = (good_rows (with_row (row.Volume r) s) after).volumes.at r (Mem-put (is_volume r.project r.pool r.name) before r s.volumes) in
    put-section volume_entry 5 (λ y. refl) (is_volume r.project r.pool r.name) before r s.volumes
    (distinct-keys s h).volumes (distinct-keys (with_row (row.Volume r) s) after).volumes
    (record { at = λ y m. volume-tells r y good ((good_rows s h).volumes.at y m) ∙ bytes_eq-order (key_of (row.Volume y)) (key_of (row.Volume r)) })
  where
    before : Volume → Bool
    before y = texts_before (volume_names r) (volume_names y)

pub instance-section : (s : State) (r : Instance) → AreNamed s → AreNamed (with_row (row.Instance r) s)
    → put_entry (instance_entry r) (sections_of s).instances ≡ (sections_of (with_row (row.Instance r) s)).instances
instance-section s r h after =
    let good = (good_rows (with_row (row.Instance r) s) after).instances.at r (Mem-put (is_instance r.project r.name) before r s.instances) in
    put-section instance_entry 6 (λ y. refl) (is_instance r.project r.name) before r s.instances
    (distinct-keys s h).instances (distinct-keys (with_row (row.Instance r) s) after).instances
    (record { at = λ y m. instance-tells r y good ((good_rows s h).instances.at y m) ∙ bytes_eq-order (key_of (row.Instance y)) (key_of (row.Instance r)) })
  where
    before : Instance → Bool
    before y = texts_before (instance_names r) (instance_names y)

pub snapshot-section : (s : State) (r : Snapshot) → AreNamed s → AreNamed (with_row (row.Snapshot r) s)
    → put_entry (snapshot_entry r) (sections_of s).snapshots ≡ (sections_of (with_row (row.Snapshot r) s)).snapshots
snapshot-section s r h after =
    let good = (good_rows (with_row (row.Snapshot r) s) after).snapshots.at r (Mem-put (is_snapshot r.project r.instance r.name) before r s.snapshots) in
    put-section snapshot_entry 7 (λ y. refl) (is_snapshot r.project r.instance r.name) before r s.snapshots
    (distinct-keys s h).snapshots (distinct-keys (with_row (row.Snapshot r) s) after).snapshots
    (record { at = λ y m. snapshot-tells r y good ((good_rows s h).snapshots.at y m) ∙ bytes_eq-order (key_of (row.Snapshot y)) (key_of (row.Snapshot r)) })
  where
    before : Snapshot → Bool
    before y = texts_before (snapshot_names r) (snapshot_names y)

-- ---- in the section of the kind that is removed from

pub project-gone : (s : State) (key : List ℕ) → AreNamed s → AreNamed (without_row kind.Project key s)
    → remove_entry 1 key (sections_of s).projects ≡ (sections_of (without_row kind.Project key s)).projects
project-gone s key h after =
    remove-section project_entry 1 (λ y. refl) (λ y. has_key key (row.Project y)) key s.projects
    (distinct-keys s h).projects (distinct-keys (without_row kind.Project key s) after).projects
    (λ y. bytes_eq-order (key_of (row.Project y)) key)

pub profile-gone : (s : State) (key : List ℕ) → AreNamed s → AreNamed (without_row kind.Profile key s)
    → remove_entry 2 key (sections_of s).profiles ≡ (sections_of (without_row kind.Profile key s)).profiles
profile-gone s key h after =
    remove-section profile_entry 2 (λ y. refl) (λ y. has_key key (row.Profile y)) key s.profiles
    (distinct-keys s h).profiles (distinct-keys (without_row kind.Profile key s) after).profiles
    (λ y. bytes_eq-order (key_of (row.Profile y)) key)

pub network-gone : (s : State) (key : List ℕ) → AreNamed s → AreNamed (without_row kind.Network key s)
    → remove_entry 3 key (sections_of s).networks ≡ (sections_of (without_row kind.Network key s)).networks
network-gone s key h after =
    remove-section network_entry 3 (λ y. refl) (λ y. has_key key (row.Network y)) key s.networks
    (distinct-keys s h).networks (distinct-keys (without_row kind.Network key s) after).networks
    (λ y. bytes_eq-order (key_of (row.Network y)) key)

pub pool-gone : (s : State) (key : List ℕ) → AreNamed s → AreNamed (without_row kind.Pool key s)
    → remove_entry 4 key (sections_of s).pools ≡ (sections_of (without_row kind.Pool key s)).pools
pool-gone s key h after =
    remove-section pool_entry 4 (λ y. refl) (λ y. has_key key (row.Pool y)) key s.pools
    (distinct-keys s h).pools (distinct-keys (without_row kind.Pool key s) after).pools
    (λ y. bytes_eq-order (key_of (row.Pool y)) key)

pub volume-gone : (s : State) (key : List ℕ) → AreNamed s → AreNamed (without_row kind.Volume key s)
    → remove_entry 5 key (sections_of s).volumes ≡ (sections_of (without_row kind.Volume key s)).volumes
volume-gone s key h after =
    remove-section volume_entry 5 (λ y. refl) (λ y. has_key key (row.Volume y)) key s.volumes
    (distinct-keys s h).volumes (distinct-keys (without_row kind.Volume key s) after).volumes
    (λ y. bytes_eq-order (key_of (row.Volume y)) key)

pub instance-gone : (s : State) (key : List ℕ) → AreNamed s → AreNamed (without_row kind.Instance key s)
    → remove_entry 6 key (sections_of s).instances ≡ (sections_of (without_row kind.Instance key s)).instances
instance-gone s key h after =
    remove-section instance_entry 6 (λ y. refl) (λ y. has_key key (row.Instance y)) key s.instances
    (distinct-keys s h).instances (distinct-keys (without_row kind.Instance key s) after).instances
    (λ y. bytes_eq-order (key_of (row.Instance y)) key)

pub snapshot-gone : (s : State) (key : List ℕ) → AreNamed s → AreNamed (without_row kind.Snapshot key s)
    → remove_entry 7 key (sections_of s).snapshots ≡ (sections_of (without_row kind.Snapshot key s)).snapshots
snapshot-gone s key h after =
    remove-section snapshot_entry 7 (λ y. refl) (λ y. has_key key (row.Snapshot y)) key s.snapshots
    (distinct-keys s h).snapshots (distinct-keys (without_row kind.Snapshot key s) after).snapshots
    (λ y. bytes_eq-order (key_of (row.Snapshot y)) key)
