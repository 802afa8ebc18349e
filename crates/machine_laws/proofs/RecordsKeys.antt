-- The tests by name and by key are tests of the places of entries.
use Rattle.std.proofs.Common.{◌≡◌, ℕ, Bool, true, List, [], ◌∷◌}
use Rattle.std.specs.Cmp.{both_ways}
use Rattle.std.specs.Str.{bytes_eq}
use Rattle.config_lists.proofs.Keys.{same}
use Rattle.records.specs.declared.rows.Profile.{Profile}
use Rattle.records.specs.declared.rows.Network.{Network}
use Rattle.records.specs.declared.rows.Volume.{Volume}
use Rattle.records.specs.declared.rows.Instance.{Instance}
use Rattle.records.specs.declared.rows.Snapshot.{Snapshot}
use Rattle.records.specs.declared.rows.Row.TheVariants as row
use Rattle.row_codec.specs.Rows.{HasGoodKey}
use Rattle.row_codec.specs.Spelling.{key_of, two_names, three_names}
use Rattle.row_machine.specs.machine.Rows.{is_profile, is_network, is_volume, is_instance, is_snapshot}
use Rattle.machine_laws.proofs.NamesTests.{equal_is, profile_is, network_is, volume_is, instance_is, snapshot_is, profile_passes, network_passes, volume_passes, instance_passes, snapshot_passes}
use Rattle.machine_laws.proofs.NamesKeys.{profile-key, network-key, volume-key, instance-key, snapshot-key}

-- names that are those of another list have its key
two_keyed : (a b c d : List ℕ) → (a ∷ b ∷ []) ≡ (c ∷ d ∷ []) → two_names a b ≡ two_names c d
two_keyed a b c d e =
    let first : a ≡ c = cc in
    let second : b ≡ d = cc in
    λ i. two_names (first i) (second i)

three_keyed : (a b c d e f : List ℕ) → (a ∷ b ∷ c ∷ []) ≡ (d ∷ e ∷ f ∷ []) → three_names a b c ≡ three_names d e f
three_keyed a b c d e f is =
    let first : a ≡ d = cc in
    let second : b ≡ e = cc in
    let third : c ≡ f = cc in
    λ i. three_names (first i) (second i) (third i)

-- a test that holds of the same names, and the test of the keys
agree : (test : Bool) (a b : List ℕ) → (test ≡ true → a ≡ b) → (a ≡ b → test ≡ true) → test ≡ bytes_eq a b
agree test a b there back = both_ways test (bytes_eq a b) (λ h. equal_is a b (there h)) (λ h. back (same a b h))

pub profile-tells : (r y : Profile) → HasGoodKey (row.Profile r) → HasGoodKey (row.Profile y)
    → is_profile r.project r.name y ≡ bytes_eq (key_of (row.Profile y)) (key_of (row.Profile r))
profile-tells r y good_r good_y = agree (is_profile r.project r.name y) _ _
    (λ h. two_keyed y.project y.name r.project r.name (profile_is r.project r.name y h))
    (λ e. profile_passes r.project r.name y (profile-key r y good_r good_y e))

pub network-tells : (r y : Network) → HasGoodKey (row.Network r) → HasGoodKey (row.Network y)
    → is_network r.project r.name y ≡ bytes_eq (key_of (row.Network y)) (key_of (row.Network r))
network-tells r y good_r good_y = agree (is_network r.project r.name y) _ _
    (λ h. two_keyed y.project y.name r.project r.name (network_is r.project r.name y h))
    (λ e. network_passes r.project r.name y (network-key r y good_r good_y e))

pub volume-tells : (r y : Volume) → HasGoodKey (row.Volume r) → HasGoodKey (row.Volume y)
    → is_volume r.project r.pool r.name y ≡ bytes_eq (key_of (row.Volume y)) (key_of (row.Volume r))
volume-tells r y good_r good_y = agree (is_volume r.project r.pool r.name y) _ _
    (λ h. three_keyed y.project y.pool y.name r.project r.pool r.name (volume_is r.project r.pool r.name y h))
    (λ e. volume_passes r.project r.pool r.name y (volume-key r y good_r good_y e))

pub instance-tells : (r y : Instance) → HasGoodKey (row.Instance r) → HasGoodKey (row.Instance y)
    → is_instance r.project r.name y ≡ bytes_eq (key_of (row.Instance y)) (key_of (row.Instance r))
instance-tells r y good_r good_y = agree (is_instance r.project r.name y) _ _
    (λ h. two_keyed y.project y.name r.project r.name (instance_is r.project r.name y h))
    (λ e. instance_passes r.project r.name y (instance-key r y good_r good_y e))

pub snapshot-tells : (r y : Snapshot) → HasGoodKey (row.Snapshot r) → HasGoodKey (row.Snapshot y)
    → is_snapshot r.project r.instance r.name y ≡ bytes_eq (key_of (row.Snapshot y)) (key_of (row.Snapshot r))
snapshot-tells r y good_r good_y = agree (is_snapshot r.project r.instance r.name y) _ _
    (λ h. three_keyed y.project y.instance y.name r.project r.instance r.name (snapshot_is r.project r.instance r.name y h))
    (λ e. snapshot_passes r.project r.instance r.name y (snapshot-key r y good_r good_y e))
