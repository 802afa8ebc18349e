-- Settings and devices of a body have no empty keys.
use Rattle.std.proofs.Common.{◌≡◌, ℕ, Bool, true, false, ◌&&◌, ◌||◌, List, [], ◌∷◌, Option, Some, None, refl, cond, not, codes}
use Rattle.std.specs.Prelude.{option_map}
use Rattle.std.specs.declared.cmp.Ordering.{Ordering}
use Rattle.std.specs.declared.cmp.Ordering.TheVariants.{Less, Equal, Greater}
use Rattle.std.specs.Ordering.{nat_cmp, match_ordering}
use Rattle.std.specs.Cmp.Lexicographic.{slice_cmp}
use Rattle.std.specs.List.{list_all}
use Rattle.std.specs.Option.{option_map_or}
use Rattle.serde_json.specs.Data.{Data, Members, no_members, member}
use Rattle.serde_json.specs.Find.{as_object, as_str}
use Rattle.config_lists.specs.Devices.{NamedDevices}
use Rattle.config_lists.specs.Entries.{put}
use Rattle.config_lists.specs.Settings.{Settings}
use Rattle.records.specs.Forms.{are_settings, are_devices}
use Rattle.rest_bodies.specs.Bodies.{config_at, devices_at}
use Rattle.rest_bodies.specs.Members.{non_null_member}
use Rattle.rest_bodies.specs.Settings.{is_empty, with_change, changes_after, changes_of, with_setting, settings_after, device_of, devices_after, devices_of}

-- the parts of a test that passes
pub both : (a b : Bool) → (a && b) ≡ true → (a ≡ true) × (b ≡ true)
both true b h = (refl, h)
both false b h = (h, cc)

-- two tests that pass
pub and_true : (a b : Bool) → a ≡ true → b ≡ true → (a && b) ≡ true
and_true true b h k = k
and_true false b h k = h

-- A put keeps what a test says of all entries, where it passes the new value under its key and under each key of an
-- entry that passes.
module _ {V : Type 0} (test : List ℕ × V → Bool) (key : List ℕ) (value : V) (here : test (key, value) ≡ true)
    (over : (k : List ℕ) (old : V) → test (k, old) ≡ true → test (k, value) ≡ true) where
  list_all-put : (entries : List (List ℕ × V)) → list_all test entries ≡ true → list_all test (put entries key value) ≡ true
  unfolding put
  list_all-put [] h = and_true _ _ here refl
  list_all-put (e ∷ es) h = by (slice_cmp nat_cmp key e.0) (list_all-put es (both _ _ h).1)
    where
      by : (o : Ordering) → list_all test (put es key value) ≡ true → list_all test (match_ordering o ((key, value) ∷ e ∷ es) ((e.0, value) ∷ es) (e ∷ put es key value)) ≡ true
      by Less rest = and_true _ _ here h
      by Equal rest = and_true _ _ (over e.0 e.1 (both _ _ h).0) (both _ _ h).1
      by Greater rest = and_true _ _ (both _ _ h).0 rest

-- a key that is not empty joins settings
put_formed : (config : Settings) (key value : List ℕ) → is_empty key ≡ false → are_settings config ≡ true → are_settings (put config key value) ≡ true
put_formed config key value e h = list_all-put (λ entry. not (is_empty entry.0)) key value (rw e refl) (λ k old same. same) config h

-- a device with settings joins devices
put_device_formed : (devices : NamedDevices) (name : List ℕ) (device : Settings) → are_settings device ≡ true → are_devices devices ≡ true → are_devices (put devices name device) ≡ true
put_device_formed devices name device e h = list_all-put (λ entry. are_settings entry.1) name device e (λ k old same. e) devices h

with_change_formed : (changes : Settings) (key : List ℕ) (text : Option (List ℕ)) → are_settings changes ≡ true → are_settings (with_change changes key text) ≡ true
with_change_formed changes key None h = h
with_change_formed changes key (Some text) h = by (is_empty key) refl
  where
    by : (b : Bool) → is_empty key ≡ b → are_settings (cond b changes (put changes key text)) ≡ true
    by true e = h
    by false e = put_formed changes key text e h

changes_formed : (ms : Members) (changes : Settings) → are_settings changes ≡ true → are_settings (changes_after changes ms) ≡ true
changes_formed no_members changes h = h
changes_formed (member key value more) changes h = changes_formed more (with_change changes key (as_str value)) (with_change_formed changes key (as_str value) h)

changes_of_formed : (value : Data) → are_settings (changes_of value) ≡ true
unfolding changes_of
changes_of_formed value = by (as_object value)
  where
    by : (o : Option Members) → are_settings (option_map_or (changes_after []) o []) ≡ true
    by None = refl
    by (Some ms) = changes_formed ms [] refl

with_setting_formed : (config : Settings) (key : List ℕ) (text : Option (List ℕ)) → are_settings config ≡ true → are_settings (with_setting config key text) ≡ true
with_setting_formed config key None h = h
with_setting_formed config key (Some text) h = by (is_empty key) (is_empty text) refl
  where
    by : (b c : Bool) → is_empty key ≡ b → are_settings (cond (b || c) config (put config key text)) ≡ true
    by true c e = h
    by false true e = h
    by false false e = put_formed config key text e h

settings_formed : (ms : Members) (config : Settings) → are_settings config ≡ true → are_settings (settings_after config ms) ≡ true
settings_formed no_members config h = h
settings_formed (member key value more) config h = settings_formed more (with_setting config key (as_str value)) (with_setting_formed config key (as_str value) h)

device_of_formed : (value : Data) → are_settings (device_of value) ≡ true
unfolding device_of
device_of_formed value = by (as_object value)
  where
    by : (o : Option Members) → are_settings (option_map_or (settings_after []) o []) ≡ true
    by None = refl
    by (Some ms) = settings_formed ms [] refl

devices_formed : (ms : Members) (devices : NamedDevices) → are_devices devices ≡ true → are_devices (devices_after devices ms) ≡ true
devices_formed no_members devices h = h
devices_formed (member name value more) devices h = devices_formed more (put devices name (device_of value)) (put_device_formed devices name (device_of value) (device_of_formed value) h)

devices_of_formed : (value : Data) → are_devices (devices_of value) ≡ true
unfolding devices_of
devices_of_formed value = by (as_object value)
  where
    by : (o : Option Members) → are_devices (option_map_or (devices_after []) o []) ≡ true
    by None = refl
    by (Some ms) = devices_formed ms [] refl

-- ---- those of a body

pub config_formed : (body : Data) → option_map_or are_settings (config_at body) true ≡ true
unfolding config_at
config_formed body = by (non_null_member (codes "config") body)
  where
    by : (o : Option Data) → option_map_or are_settings (option_map changes_of o) true ≡ true
    by None = refl
    by (Some value) = changes_of_formed value

pub devices_at_formed : (body : Data) → option_map_or are_devices (devices_at body) true ≡ true
unfolding devices_at
devices_at_formed body = by (non_null_member (codes "devices") body)
  where
    by : (o : Option Data) → option_map_or are_devices (option_map devices_of o) true ≡ true
    by None = refl
    by (Some value) = devices_of_formed value
