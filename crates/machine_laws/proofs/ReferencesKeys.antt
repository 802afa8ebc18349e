-- The tests by name and the keys of rows of each kind tell names.
use Rattle.std.proofs.Common.{◌≡◌, ℕ, true, List, [], ◌∷◌, ap, ◌∙◌}
use Rattle.std.specs.Str.{bytes_eq}
use Rattle.plain_lists.specs.Members.{Mem, Each}
use Rattle.plain_lists.proofs.Elements.{Each-left}
use Rattle.config_lists.proofs.Keys.{same, bytes_eq-itself}
use Rattle.size_values.specs.declared.kinds.ObjectKind.TheVariants as kind
use Rattle.records.specs.declared.rows.Project.{Project}
use Rattle.records.specs.declared.rows.Profile.{Profile}
use Rattle.records.specs.declared.rows.Network.{Network}
use Rattle.records.specs.declared.rows.Pool.{Pool}
use Rattle.records.specs.declared.rows.Volume.{Volume}
use Rattle.records.specs.declared.rows.Instance.{Instance}
use Rattle.records.specs.declared.rows.Snapshot.{Snapshot}
use Rattle.records.specs.declared.rows.Row.TheVariants as row
use Rattle.row_codec.specs.Rows.{HasGoodKey}
use Rattle.row_codec.specs.Spelling.{key_of, two_names, three_names}
use Rattle.row_codec.proofs.Names.{two_again, three_again}
use Rattle.row_machine.specs.machine.State.{State}
use Rattle.row_machine.specs.machine.Rows.{is_project, is_profile, is_network, is_pool, is_volume, is_instance, is_snapshot, project_names, profile_names, network_names, pool_names, volume_names, instance_names, snapshot_names}
use Rattle.row_machine.specs.machine.Changes.{has_key}
use Rattle.row_machine.specs.facts.Whole.{AreNamed, claims_of}
use Rattle.machine_laws.proofs.NamesRows.{EachRow, each-row}
use Rattle.machine_laws.proofs.NamesTests.{project_is, project_passes, profile_is, profile_passes, network_is, network_passes, pool_is, pool_passes, volume_is, volume_passes, instance_is, instance_passes, snapshot_is, snapshot_passes}
use Rattle.machine_laws.proofs.ReferencesFinds.{Tells}

-- ---- tests

pub tells-project : (name : List ℕ) → Tells project_names (is_project name) (name ∷ [])
tells-project name = record { is = project_is name; passes = project_passes name }

pub tells-profile : (project name : List ℕ) → Tells profile_names (is_profile project name) (project ∷ name ∷ [])
tells-profile project name = record { is = profile_is project name; passes = profile_passes project name }

pub tells-network : (project name : List ℕ) → Tells network_names (is_network project name) (project ∷ name ∷ [])
tells-network project name = record { is = network_is project name; passes = network_passes project name }

pub tells-pool : (name : List ℕ) → Tells pool_names (is_pool name) (name ∷ [])
tells-pool name = record { is = pool_is name; passes = pool_passes name }

pub tells-volume : (project pool name : List ℕ)
    → Tells volume_names (is_volume project pool name) (project ∷ pool ∷ name ∷ [])
tells-volume project pool name = record { is = volume_is project pool name; passes = volume_passes project pool name }

pub tells-instance : (project name : List ℕ) → Tells instance_names (is_instance project name) (project ∷ name ∷ [])
tells-instance project name = record { is = instance_is project name; passes = instance_passes project name }

pub tells-snapshot : (project instance name : List ℕ)
    → Tells snapshot_names (is_snapshot project instance name) (project ∷ instance ∷ name ∷ [])
tells-snapshot project instance name = record { is = snapshot_is project instance name; passes = snapshot_passes project instance name }

-- ---- good names

-- all rows have good keys
pub good-rows : {s : State} → AreNamed s → EachRow HasGoodKey s
good-rows {s} h = each-row s (Each-left (claims_of s) h.good)

-- ---- keys

pub key-project : (x y : Project) → has_key (key_of (row.Project x)) (row.Project y) ≡ true
    → project_names y ≡ project_names x
key-project x y h = ap (λ n. n ∷ []) (same y.name x.name h)

pub keyed-project : (x y : Project) → project_names y ≡ project_names x
    → has_key (key_of (row.Project x)) (row.Project y) ≡ true
keyed-project x y e = let names : y.name ≡ x.name = cc in ap (λ n. bytes_eq n x.name) names ∙ bytes_eq-itself x.name

pub key-profile : (x y : Profile) → HasGoodKey (row.Profile x) → HasGoodKey (row.Profile y)
    → has_key (key_of (row.Profile x)) (row.Profile y) ≡ true
    → profile_names y ≡ profile_names x
key-profile x y good_x good_y h =
    let keys = same (two_names y.project y.name) (two_names x.project x.name) h in
    let of_y = two_again kind.Project kind.Profile y.project y.name good_y.0 good_y.1 in
    let of_x = two_again kind.Project kind.Profile x.project x.name good_x.0 good_x.1 in
    let names : (y.project, y.name) ≡ (x.project, x.name) = cc in
    ap (λ (z : List ℕ × List ℕ). z.0 ∷ z.1 ∷ []) names

pub keyed-profile : (x y : Profile) → profile_names y ≡ profile_names x
    → has_key (key_of (row.Profile x)) (row.Profile y) ≡ true
keyed-profile x y e =
    let projects : y.project ≡ x.project = cc in
    let names : y.name ≡ x.name = cc in
    ap (λ key. bytes_eq key (key_of (row.Profile x))) (λ i. two_names (projects i) (names i)) ∙ bytes_eq-itself
    (key_of (row.Profile x))

pub key-network : (x y : Network) → HasGoodKey (row.Network x) → HasGoodKey (row.Network y)
    → has_key (key_of (row.Network x)) (row.Network y) ≡ true
    → network_names y ≡ network_names x
key-network x y good_x good_y h =
    let keys = same (two_names y.project y.name) (two_names x.project x.name) h in
    let of_y = two_again kind.Project kind.Network y.project y.name good_y.0 good_y.1 in
    let of_x = two_again kind.Project kind.Network x.project x.name good_x.0 good_x.1 in
    let names : (y.project, y.name) ≡ (x.project, x.name) = cc in
    ap (λ (z : List ℕ × List ℕ). z.0 ∷ z.1 ∷ []) names

pub keyed-network : (x y : Network) → network_names y ≡ network_names x
    → has_key (key_of (row.Network x)) (row.Network y) ≡ true
keyed-network x y e =
    let projects : y.project ≡ x.project = cc in
    let names : y.name ≡ x.name = cc in
    ap (λ key. bytes_eq key (key_of (row.Network x))) (λ i. two_names (projects i) (names i)) ∙ bytes_eq-itself
    (key_of (row.Network x))

pub key-pool : (x y : Pool) → has_key (key_of (row.Pool x)) (row.Pool y) ≡ true → pool_names y ≡ pool_names x
key-pool x y h = ap (λ n. n ∷ []) (same y.name x.name h)

pub keyed-pool : (x y : Pool) → pool_names y ≡ pool_names x → has_key (key_of (row.Pool x)) (row.Pool y) ≡ true
keyed-pool x y e = let names : y.name ≡ x.name = cc in ap (λ n. bytes_eq n x.name) names ∙ bytes_eq-itself x.name

pub key-volume : (x y : Volume) → HasGoodKey (row.Volume x) → HasGoodKey (row.Volume y)
    → has_key (key_of (row.Volume x)) (row.Volume y) ≡ true
    → volume_names y ≡ volume_names x
key-volume x y good_x good_y h =
    let keys = same (three_names y.project y.pool y.name) (three_names x.project x.pool x.name) h in
    let of_y = three_again kind.Project kind.Pool kind.Volume y.project y.pool y.name good_y.0 good_y.1 good_y.2 in
    let of_x = three_again kind.Project kind.Pool kind.Volume x.project x.pool x.name good_x.0 good_x.1 good_x.2 in
    let names : (y.project, y.pool, y.name) ≡ (x.project, x.pool, x.name) = cc in
    ap (λ (z : List ℕ × List ℕ × List ℕ). z.0 ∷ z.1 ∷ z.2 ∷ []) names

pub keyed-volume : (x y : Volume) → volume_names y ≡ volume_names x
    → has_key (key_of (row.Volume x)) (row.Volume y) ≡ true
keyed-volume x y e =
    let projects : y.project ≡ x.project = cc in
    let pools : y.pool ≡ x.pool = cc in
    let names : y.name ≡ x.name = cc in
    ap (λ key. bytes_eq key (key_of (row.Volume x))) (λ i. three_names (projects i) (pools i) (names i)) ∙
    bytes_eq-itself (key_of (row.Volume x))

pub key-instance : (x y : Instance) → HasGoodKey (row.Instance x) → HasGoodKey (row.Instance y)
    → has_key (key_of (row.Instance x)) (row.Instance y) ≡ true
    → instance_names y ≡ instance_names x
key-instance x y good_x good_y h =
    let keys = same (two_names y.project y.name) (two_names x.project x.name) h in
    let of_y = two_again kind.Project kind.Instance y.project y.name good_y.0 good_y.1 in
    let of_x = two_again kind.Project kind.Instance x.project x.name good_x.0 good_x.1 in
    let names : (y.project, y.name) ≡ (x.project, x.name) = cc in
    ap (λ (z : List ℕ × List ℕ). z.0 ∷ z.1 ∷ []) names

pub keyed-instance : (x y : Instance) → instance_names y ≡ instance_names x
    → has_key (key_of (row.Instance x)) (row.Instance y) ≡ true
keyed-instance x y e =
    let projects : y.project ≡ x.project = cc in
    let names : y.name ≡ x.name = cc in
    ap (λ key. bytes_eq key (key_of (row.Instance x))) (λ i. two_names (projects i) (names i)) ∙ bytes_eq-itself
    (key_of (row.Instance x))

pub key-snapshot : (x y : Snapshot) → HasGoodKey (row.Snapshot x) → HasGoodKey (row.Snapshot y)
    → has_key (key_of (row.Snapshot x)) (row.Snapshot y) ≡ true
    → snapshot_names y ≡ snapshot_names x
key-snapshot x y good_x good_y h =
    let keys = same (three_names y.project y.instance y.name) (three_names x.project x.instance x.name) h in
    let of_y = three_again kind.Project kind.Instance kind.Snapshot y.project y.instance y.name good_y.0 good_y.1 good_y.2 in
    let of_x = three_again kind.Project kind.Instance kind.Snapshot x.project x.instance x.name good_x.0 good_x.1 good_x.2 in
    let names : (y.project, y.instance, y.name) ≡ (x.project, x.instance, x.name) = cc in
    ap (λ (z : List ℕ × List ℕ × List ℕ). z.0 ∷ z.1 ∷ z.2 ∷ []) names

pub keyed-snapshot : (x y : Snapshot) → snapshot_names y ≡ snapshot_names x
    → has_key (key_of (row.Snapshot x)) (row.Snapshot y) ≡ true
keyed-snapshot x y e =
    let projects : y.project ≡ x.project = cc in
    let instances : y.instance ≡ x.instance = cc in
    let names : y.name ≡ x.name = cc in
    ap (λ key. bytes_eq key (key_of (row.Snapshot x))) (λ i. three_names (projects i) (instances i) (names i)) ∙
    bytes_eq-itself (key_of (row.Snapshot x))

-- only rows of its names are dropped by the key of a project
pub drops-project : {s : State} (x : Project) → AreNamed s → Mem x s.projects
    → Each (λ y. has_key (key_of (row.Project x)) (row.Project y) ≡ true → project_names y ≡ project_names x) s.projects
drops-project x h there = record { at = λ y m. key-project x y }

-- only rows of its names are dropped by the key of a profile
pub drops-profile : {s : State} (x : Profile) → AreNamed s → Mem x s.profiles
    → Each (λ y. has_key (key_of (row.Profile x)) (row.Profile y) ≡ true → profile_names y ≡ profile_names x) s.profiles
drops-profile x h there = record { at = λ y m. key-profile x y ((good-rows h).profiles.at x there) ((good-rows h).profiles.at y m) }

-- only rows of its names are dropped by the key of a network
pub drops-network : {s : State} (x : Network) → AreNamed s → Mem x s.networks
    → Each (λ y. has_key (key_of (row.Network x)) (row.Network y) ≡ true → network_names y ≡ network_names x) s.networks
drops-network x h there = record { at = λ y m. key-network x y ((good-rows h).networks.at x there) ((good-rows h).networks.at y m) }

-- only rows of its names are dropped by the key of a pool
pub drops-pool : {s : State} (x : Pool) → AreNamed s → Mem x s.pools
    → Each (λ y. has_key (key_of (row.Pool x)) (row.Pool y) ≡ true → pool_names y ≡ pool_names x) s.pools
drops-pool x h there = record { at = λ y m. key-pool x y }

-- only rows of its names are dropped by the key of a volume
pub drops-volume : {s : State} (x : Volume) → AreNamed s → Mem x s.volumes
    → Each (λ y. has_key (key_of (row.Volume x)) (row.Volume y) ≡ true → volume_names y ≡ volume_names x) s.volumes
drops-volume x h there = record { at = λ y m. key-volume x y ((good-rows h).volumes.at x there) ((good-rows h).volumes.at y m) }

-- only rows of its names are dropped by the key of a instance
pub drops-instance : {s : State} (x : Instance) → AreNamed s → Mem x s.instances
    → Each (λ y. has_key (key_of (row.Instance x)) (row.Instance y) ≡ true → instance_names y ≡ instance_names x) s.instances
drops-instance x h there = record { at = λ y m. key-instance x y ((good-rows h).instances.at x there) ((good-rows h).instances.at y m) }

-- only rows of its names are dropped by the key of a snapshot
pub drops-snapshot : {s : State} (x : Snapshot) → AreNamed s → Mem x s.snapshots
    → Each (λ y. has_key (key_of (row.Snapshot x)) (row.Snapshot y) ≡ true → snapshot_names y ≡ snapshot_names x) s.snapshots
drops-snapshot x h there = record { at = λ y m. key-snapshot x y ((good-rows h).snapshots.at x there) ((good-rows h).snapshots.at y m) }
