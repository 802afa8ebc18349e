-- The tests by name tell names, of rows of each kind.
use Rattle.std.proofs.Common.{◌≡◌, ◌≢◌, ℕ, Bool, true, false, ◌&&◌, List, [], ◌∷◌, refl, sym, ap, ◌∙◌, true≢false}
use Rattle.std.specs.Str.{bytes_eq}
use Rattle.std.proofs.lemmas.Bool.{and_parts, and_from}
use Rattle.config_lists.proofs.Keys.{same, bytes_eq-itself}
use Rattle.records.specs.declared.rows.Project.{Project}
use Rattle.records.specs.declared.rows.Profile.{Profile}
use Rattle.records.specs.declared.rows.Network.{Network}
use Rattle.records.specs.declared.rows.Pool.{Pool}
use Rattle.records.specs.declared.rows.Volume.{Volume}
use Rattle.records.specs.declared.rows.Instance.{Instance}
use Rattle.records.specs.declared.rows.Snapshot.{Snapshot}
use Rattle.row_machine.specs.machine.Rows.{is_project, is_profile, is_network, is_pool, is_volume, is_instance, is_snapshot, project_names, profile_names, network_names, pool_names, volume_names, instance_names, snapshot_names}

-- ---- lists of names

pub equal_is : (a b : List ℕ) → a ≡ b → bytes_eq a b ≡ true
equal_is a b e = ap (λ t. bytes_eq t b) e ∙ bytes_eq-itself b

one_same : (a b : List ℕ) → bytes_eq a b ≡ true → (a ∷ []) ≡ (b ∷ [])
one_same a b h = ap (λ t. t ∷ []) (same a b h)

two_same : (a b c d : List ℕ) → (bytes_eq a c && bytes_eq b d) ≡ true → (a ∷ b ∷ []) ≡ (c ∷ d ∷ [])
two_same a b c d h =
    let parts = and_parts (bytes_eq a c) (bytes_eq b d) h in
    λ i. same a c parts.0 i ∷ same b d parts.1 i ∷ []

two_equal : (a b c d : List ℕ) → (a ∷ b ∷ []) ≡ (c ∷ d ∷ []) → (bytes_eq a c && bytes_eq b d) ≡ true
two_equal a b c d e =
    let first : a ≡ c = cc in
    let second : b ≡ d = cc in
    and_from (bytes_eq a c) (bytes_eq b d) (equal_is a c first) (equal_is b d second)

three_same : (a b c d e f : List ℕ) → (bytes_eq a d && bytes_eq b e && bytes_eq c f) ≡ true → (a ∷ b ∷ c ∷ []) ≡ (d ∷ e ∷ f ∷ [])
three_same a b c d e f h =
    let parts = and_parts (bytes_eq a d && bytes_eq b e) (bytes_eq c f) h in
    let both = and_parts (bytes_eq a d) (bytes_eq b e) parts.0 in
    λ i. same a d both.0 i ∷ same b e both.1 i ∷ same c f parts.1 i ∷ []

three_equal : (a b c d e f : List ℕ) → (a ∷ b ∷ c ∷ []) ≡ (d ∷ e ∷ f ∷ []) → (bytes_eq a d && bytes_eq b e && bytes_eq c f) ≡ true
three_equal a b c d e f is =
    let first : a ≡ d = cc in
    let second : b ≡ e = cc in
    let third : c ≡ f = cc in
    and_from (bytes_eq a d && bytes_eq b e) (bytes_eq c f)
    (and_from (bytes_eq a d) (bytes_eq b e) (equal_is a d first) (equal_is b e second)) (equal_is c f third)

differs : {names others : List (List ℕ)} (test : Bool) → test ≡ false → (names ≡ others → test ≡ true) → names ≢ others
differs test fails equal e = true≢false (sym (equal e) ∙ fails)

-- ---- a row passes the test of its own names

pub project_itself : (r : Project) → is_project r.name r ≡ true
project_itself r = bytes_eq-itself r.name

pub profile_itself : (r : Profile) → is_profile r.project r.name r ≡ true
profile_itself r = two_equal r.project r.name r.project r.name refl

pub network_itself : (r : Network) → is_network r.project r.name r ≡ true
network_itself r = two_equal r.project r.name r.project r.name refl

pub pool_itself : (r : Pool) → is_pool r.name r ≡ true
pool_itself r = bytes_eq-itself r.name

pub volume_itself : (r : Volume) → is_volume r.project r.pool r.name r ≡ true
volume_itself r = three_equal r.project r.pool r.name r.project r.pool r.name refl

pub instance_itself : (r : Instance) → is_instance r.project r.name r ≡ true
instance_itself r = two_equal r.project r.name r.project r.name refl

pub snapshot_itself : (r : Snapshot) → is_snapshot r.project r.instance r.name r ≡ true
snapshot_itself r = three_equal r.project r.instance r.name r.project r.instance r.name refl

-- ---- one that passes has these names

pub project_is : (name : List ℕ) (r : Project) → is_project name r ≡ true → project_names r ≡ name ∷ []
project_is name r h = one_same r.name name h

pub profile_is : (project name : List ℕ) (r : Profile) → is_profile project name r ≡ true → profile_names r ≡ project ∷ name ∷ []
profile_is project name r h = two_same r.project r.name project name h

pub network_is : (project name : List ℕ) (r : Network) → is_network project name r ≡ true → network_names r ≡ project ∷ name ∷ []
network_is project name r h = two_same r.project r.name project name h

pub pool_is : (name : List ℕ) (r : Pool) → is_pool name r ≡ true → pool_names r ≡ name ∷ []
pool_is name r h = one_same r.name name h

pub volume_is : (project pool name : List ℕ) (r : Volume) → is_volume project pool name r ≡ true → volume_names r ≡ project ∷ pool ∷ name ∷ []
volume_is project pool name r h = three_same r.project r.pool r.name project pool name h

pub instance_is : (project name : List ℕ) (r : Instance) → is_instance project name r ≡ true → instance_names r ≡ project ∷ name ∷ []
instance_is project name r h = two_same r.project r.name project name h

pub snapshot_is : (project instance name : List ℕ) (r : Snapshot) → is_snapshot project instance name r ≡ true → snapshot_names r ≡ project ∷ instance ∷ name ∷ []
snapshot_is project instance name r h = three_same r.project r.instance r.name project instance name h

-- ---- and one that has these names passes

pub project_passes : (name : List ℕ) (r : Project) → project_names r ≡ name ∷ [] → is_project name r ≡ true
project_passes name r e = equal_is r.name name cc

pub profile_passes : (project name : List ℕ) (r : Profile) → profile_names r ≡ project ∷ name ∷ [] → is_profile project name r ≡ true
profile_passes project name r e = two_equal r.project r.name project name e

pub network_passes : (project name : List ℕ) (r : Network) → network_names r ≡ project ∷ name ∷ [] → is_network project name r ≡ true
network_passes project name r e = two_equal r.project r.name project name e

pub pool_passes : (name : List ℕ) (r : Pool) → pool_names r ≡ name ∷ [] → is_pool name r ≡ true
pool_passes name r e = equal_is r.name name cc

pub volume_passes : (project pool name : List ℕ) (r : Volume) → volume_names r ≡ project ∷ pool ∷ name ∷ [] → is_volume project pool name r ≡ true
volume_passes project pool name r e = three_equal r.project r.pool r.name project pool name e

pub instance_passes : (project name : List ℕ) (r : Instance) → instance_names r ≡ project ∷ name ∷ [] → is_instance project name r ≡ true
instance_passes project name r e = two_equal r.project r.name project name e

pub snapshot_passes : (project instance name : List ℕ) (r : Snapshot) → snapshot_names r ≡ project ∷ instance ∷ name ∷ [] → is_snapshot project instance name r ≡ true
snapshot_passes project instance name r e = three_equal r.project r.instance r.name project instance name e

-- ---- one that fails has others

pub project_differs : (name : List ℕ) (r : Project) → is_project name r ≡ false → project_names r ≢ name ∷ []
project_differs name r h = differs (is_project name r) h (project_passes name r)

pub profile_differs : (project name : List ℕ) (r : Profile) → is_profile project name r ≡ false → profile_names r ≢ project ∷ name ∷ []
profile_differs project name r h = differs (is_profile project name r) h (profile_passes project name r)

pub network_differs : (project name : List ℕ) (r : Network) → is_network project name r ≡ false → network_names r ≢ project ∷ name ∷ []
network_differs project name r h = differs (is_network project name r) h (network_passes project name r)

pub pool_differs : (name : List ℕ) (r : Pool) → is_pool name r ≡ false → pool_names r ≢ name ∷ []
pool_differs name r h = differs (is_pool name r) h (pool_passes name r)

pub volume_differs : (project pool name : List ℕ) (r : Volume) → is_volume project pool name r ≡ false → volume_names r ≢ project ∷ pool ∷ name ∷ []
volume_differs project pool name r h = differs (is_volume project pool name r) h (volume_passes project pool name r)

pub instance_differs : (project name : List ℕ) (r : Instance) → is_instance project name r ≡ false → instance_names r ≢ project ∷ name ∷ []
instance_differs project name r h = differs (is_instance project name r) h (instance_passes project name r)

pub snapshot_differs : (project instance name : List ℕ) (r : Snapshot) → is_snapshot project instance name r ≡ false → snapshot_names r ≢ project ∷ instance ∷ name ∷ []
snapshot_differs project instance name r h = differs (is_snapshot project instance name r) h (snapshot_passes project instance name r)
