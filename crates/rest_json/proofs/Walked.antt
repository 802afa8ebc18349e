-- One more setting or device that is put; and what a text without a meaning names.
use Rattle.std.proofs.Common.{◌≡◌, ℕ, ◌+◌, List, drop, slice_get, Option, Some, None, option_and_then, refl, sym, ap, ◌∙◌}
use Rattle.std.specs.Map.{keys_of, values_of}
use Rattle.config_lists.specs.Settings.{Settings}
use Rattle.config_lists.specs.Devices.{NamedDevices}
use Rattle.config_lists.proofs.Walks.{drop-read}
use Rattle.serde_json.specs.Data.{Members, string, put}
use Rattle.rest_json.specs.Settings.{put_settings, put_devices, settings_data}

-- the setting at a place is put before those after it
pub settings-next : (s : Settings) (i : ℕ) (key value : List ℕ) (ms after : Members) → slice_get (keys_of s) i ≡ Some key → slice_get (values_of s) i ≡ Some value → after ≡ put key (string value) ms
    → put_settings (drop (i + 1) s) after ≡ put_settings (drop i s) ms
settings-next s i key value ms after k v e =
    ap (put_settings (drop (i + 1) s)) e ∙ ap (λ (es : Settings). put_settings es ms) (sym (drop-read s i key value k v))

-- the device at a place is put before those after it
pub devices-next : (d : NamedDevices) (i : ℕ) (name : List ℕ) (config : Settings) (ms after : Members) → slice_get (keys_of d) i ≡ Some name → slice_get (values_of d) i ≡ Some config → after ≡ put name (settings_data config) ms
    → put_devices (drop (i + 1) d) after ≡ put_devices (drop i d) ms
devices-next d i name config ms after k v e =
    ap (put_devices (drop (i + 1) d)) e ∙ ap (λ (es : NamedDevices). put_devices es ms) (sym (drop-read d i name config k v))

-- nothing comes out of an option that holds nothing
pub none_of : {A B : Type 0} (f : A → Option B) (o : Option A) → ((x : A) → o ≡ Some x → ⊥) → None ≡ option_and_then f o
none_of f None h = refl
none_of f (Some x) h = absurd (h x refl)
