-- A body holds each text and list after its length, so none of them is longer than the body.
use Rattle.std.proofs.Common.{◌≡◌, ℕ, ◌+◌, ◌≤◌, List, [], ◌∷◌, length, ap, ◌∙◌, arith, length-append}
use Rattle.std.specs.List.{flat_map, AllByRecursion}
use Rattle.std.proofs.lemmas.List.Concat.{flat_map-cons}
use Rattle.config_lists.specs.Settings.{Settings}
use Rattle.config_lists.specs.Devices.{NamedDevices}
use Rattle.records.specs.declared.rows.Row.{Row}
use Rattle.records.specs.declared.rows.Row.TheVariants as row
use Rattle.row_codec.specs.Spelling.{text_bytes, setting_bytes, device_bytes, list_bytes, texts_bytes, settings_bytes, devices_bytes, body_of}
use Rattle.row_codec.specs.Rows.{IsShort, AreShortTexts, AreShortSettings, AreShortDevices, HasShortParts}
use Rattle.row_codec.proofs.Lengths.{list-length, text-length, project-length, profile-length, network-length, pool-length, volume-length, instance-length, snapshot-length}

module _ {X : Type 0} (f : X → List ℕ) where
  cons-length : (x : X) (xs : List X) → length (flat_map f (x ∷ xs)) ≡ length (f x) + length (flat_map f xs)
  cons-length x xs = ap length (flat_map-cons f x xs) ∙ length-append (f x) (flat_map f xs)

  -- a list of items of a byte or more each has no more items than bytes
  counted : ((x : X) → 1 ≤ length (f x)) → (xs : List X) → length xs ≤ length (flat_map f xs)
  counted some [] = omega arith
  counted some (x ∷ xs) = omega (arith, cons-length x xs, some x, counted some xs)

  each-short : (P : X → Type 0) → ((x : X) → length (f x) ≤ 65536 → P x) → (xs : List X) → length (flat_map f xs) ≤ 65536 → AllByRecursion P xs
  each-short P short [] h = tt
  each-short P short (x ∷ xs) h = (short x (omega (arith, cons-length x xs, h)), each-short P short xs (omega (arith, cons-length x xs, h)))

  list-short : (P : X → Type 0) → ((x : X) → 1 ≤ length (f x)) → ((x : X) → length (f x) ≤ 65536 → P x) → (xs : List X) → length (list_bytes f xs) ≤ 65536 → IsShort xs × AllByRecursion P xs
  list-short P some short xs h =
      (omega (arith, list-length f xs, counted some xs, h), each-short P short xs (omega (arith, list-length f xs, h)))

pub text-short : (text : List ℕ) → length (text_bytes text) ≤ 65536 → IsShort text
text-short text h = omega (arith, text-length text, h)

pub texts-short : (texts : List (List ℕ)) → length (texts_bytes texts) ≤ 65536 → AreShortTexts texts
texts-short = list-short text_bytes IsShort (λ text. omega (arith, text-length text)) text-short

setting-length : (s : List ℕ × List ℕ) → length (setting_bytes s) ≡ length (text_bytes s.0) + length (text_bytes s.1)
setting-length s = length-append (text_bytes s.0) (text_bytes s.1)

setting-short : (s : List ℕ × List ℕ) → length (setting_bytes s) ≤ 65536 → IsShort s.0 × IsShort s.1
setting-short s h = (text-short s.0 (omega (arith, setting-length s, h)), text-short s.1 (omega (arith, setting-length s, h)))

pub settings-short : (settings : Settings) → length (settings_bytes settings) ≤ 65536 → AreShortSettings settings
settings-short = list-short setting_bytes (λ s. IsShort s.0 × IsShort s.1) (λ s. omega (arith, setting-length s, text-length s.0)) setting-short

device-length : (d : List ℕ × Settings) → length (device_bytes d) ≡ length (text_bytes d.0) + length (settings_bytes d.1)
device-length d = length-append (text_bytes d.0) (settings_bytes d.1)

device-short : (d : List ℕ × Settings) → length (device_bytes d) ≤ 65536 → IsShort d.0 × AreShortSettings d.1
device-short d h = (text-short d.0 (omega (arith, device-length d, h)), settings-short d.1 (omega (arith, device-length d, h)))

pub devices-short : (devices : NamedDevices) → length (devices_bytes devices) ≤ 65536 → AreShortDevices devices
devices-short = list-short device_bytes (λ d. IsShort d.0 × AreShortSettings d.1) (λ d. omega (arith, device-length d, text-length d.0)) device-short

-- each text and list of a row whose body has 65,536 bytes or less is short
pub short-parts : (r : Row) → length (body_of r) ≤ 65536 → HasShortParts r
short-parts (row.Project r) h =
    let e = project-length r in
    (text-short r.description (omega (arith, e, h)), settings-short r.config (omega (arith, e, h)))
short-parts (row.Profile r) h =
    let e = profile-length r in
    (text-short r.description (omega (arith, e, h)), settings-short r.config (omega (arith, e, h)), devices-short r.devices (omega (arith, e, h)))
short-parts (row.Network r) h =
    let e = network-length r in
    (text-short r.description (omega (arith, e, h)), settings-short r.config (omega (arith, e, h)))
short-parts (row.Pool r) h =
    let e = pool-length r in
    (text-short r.description (omega (arith, e, h)), settings-short r.config (omega (arith, e, h)))
short-parts (row.Volume r) h =
    let e = volume-length r in
    (text-short r.description (omega (arith, e, h)), settings-short r.config (omega (arith, e, h)))
short-parts (row.Instance r) h =
    let e = instance-length r in
    (text-short r.description (omega (arith, e, h)), text-short r.origin (omega (arith, e, h)), texts-short r.profiles (omega (arith, e, h)), settings-short r.config (omega (arith, e, h)), devices-short r.devices (omega (arith, e, h)))
short-parts (row.Snapshot r) h =
    let e = snapshot-length r in
    (texts-short r.profiles (omega (arith, e, h)), settings-short r.config (omega (arith, e, h)), devices-short r.devices (omega (arith, e, h)))
