-- How many bytes the spelling of each part of a row and each body has.
use Rattle.std.proofs.Common.{◌≡◌, ℕ, ◌+◌, List, ◌∷◌, ◌++◌, length, refl, arith, length-append}
use Rattle.std.specs.Int.{w32, to_be_bytes}
use Rattle.std.specs.List.{flat_map}
use Rattle.records.specs.declared.rows.Project.{Project}
use Rattle.records.specs.declared.rows.Profile.{Profile}
use Rattle.records.specs.declared.rows.Network.{Network}
use Rattle.records.specs.declared.rows.Pool.{Pool}
use Rattle.records.specs.declared.rows.Volume.{Volume}
use Rattle.records.specs.declared.rows.Instance.{Instance}
use Rattle.records.specs.declared.rows.Snapshot.{Snapshot}
use Rattle.row_codec.specs.Spelling.{text_bytes, number_bytes, list_bytes, texts_bytes, settings_bytes, devices_bytes, driver_byte, kind_byte, boolean_byte, project_bytes, profile_bytes, network_bytes, pool_bytes, volume_bytes, instance_bytes, snapshot_bytes}

pub list-length : {X : Type 0} (f : X → List ℕ) (xs : List X) → length (list_bytes f xs) ≡ 4 + length (flat_map f xs)
unfolding list_bytes
list-length f xs = length-append (to_be_bytes w32 (length xs)) (flat_map f xs)

pub text-length : (text : List ℕ) → length (text_bytes text) ≡ 4 + length text
unfolding text_bytes
text-length text = length-append (to_be_bytes w32 (length text)) text

pub number-length : (n : ℕ) → length (number_bytes n) ≡ 8
unfolding number_bytes
number-length n = refl

pub project-length : (r : Project) → length (project_bytes r) ≡ 1 + (length (text_bytes r.description) + length (settings_bytes r.config))
project-length r = omega (arith, length-append (1 ∷ text_bytes r.description) (settings_bytes r.config))

pub profile-length : (r : Profile) → length (profile_bytes r) ≡ 1 + (length (text_bytes r.description) + (length (settings_bytes r.config) + length (devices_bytes r.devices)))
profile-length r =
    let texts : List ℕ = 1 ∷ text_bytes r.description in
    let a = length-append texts (settings_bytes r.config) in
    let b = length-append (texts ++ settings_bytes r.config) (devices_bytes r.devices) in
    let one : length texts ≡ 1 + length (text_bytes r.description) = omega arith in
    omega (arith, a, b, one)

pub network-length : (r : Network) → length (network_bytes r) ≡ 1 + (length (text_bytes r.description) + length (settings_bytes r.config))
network-length r = omega (arith, length-append (1 ∷ text_bytes r.description) (settings_bytes r.config))

pub pool-length : (r : Pool) → length (pool_bytes r) ≡ 2 + (length (text_bytes r.description) + length (settings_bytes r.config))
pool-length r = omega (arith, length-append (1 ∷ driver_byte r.driver ∷ text_bytes r.description) (settings_bytes r.config))

pub volume-length : (r : Volume) → length (volume_bytes r) ≡ 9 + (length (text_bytes r.description) + length (settings_bytes r.config))
volume-length r =
    let texts : List ℕ = 1 ∷ text_bytes r.description in
    let a = length-append texts (settings_bytes r.config) in
    let b = length-append (texts ++ settings_bytes r.config) (number_bytes r.created) in
    let one : length texts ≡ 1 + length (text_bytes r.description) = omega arith in
    omega (arith, a, b, number-length r.created, one)

pub instance-length : (r : Instance) → length (instance_bytes r)
    ≡ 11 + ((length (text_bytes r.description) + length (text_bytes r.origin)) + (length (texts_bytes r.profiles) + (length (settings_bytes r.config) + length (devices_bytes r.devices))))
instance-length r =
    let texts : List ℕ = 1 ∷ kind_byte r.kind ∷ boolean_byte r.ephemeral ∷ text_bytes r.description in
    let number : List ℕ = number_bytes r.created in
    let a = length-append texts (text_bytes r.origin) in
    let b = length-append (texts ++ text_bytes r.origin) number in
    let c = length-append (texts ++ text_bytes r.origin ++ number) (texts_bytes r.profiles) in
    let d = length-append (texts ++ text_bytes r.origin ++ number ++ texts_bytes r.profiles) (settings_bytes r.config) in
    let e = length-append (texts ++ text_bytes r.origin ++ number ++ texts_bytes r.profiles ++ settings_bytes r.config) (devices_bytes r.devices) in
    let three : length texts ≡ 3 + length (text_bytes r.description) = omega arith in
    omega (arith, a, b, c, d, e, number-length r.created, three)

pub snapshot-length : (r : Snapshot) → length (snapshot_bytes r)
    ≡ 17 + (length (texts_bytes r.profiles) + (length (settings_bytes r.config) + length (devices_bytes r.devices)))
snapshot-length r =
    let created : List ℕ = 1 ∷ number_bytes r.created in
    let expires : List ℕ = number_bytes r.expires in
    let a = length-append created expires in
    let b = length-append (created ++ expires) (texts_bytes r.profiles) in
    let c = length-append (created ++ expires ++ texts_bytes r.profiles) (settings_bytes r.config) in
    let d = length-append (created ++ expires ++ texts_bytes r.profiles ++ settings_bytes r.config) (devices_bytes r.devices) in
    let one : length created ≡ 1 + length (number_bytes r.created) = omega arith in
    omega (arith, a, b, c, d, number-length r.created, number-length r.expires, one)
