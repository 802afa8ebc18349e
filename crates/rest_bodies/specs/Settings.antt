-- Settings and devices in a body: which values have their form, and what they say.
use Rattle.std.specs.Prelude.{ℕ, ◌==◌, ◌&&◌, ◌||◌, Bool, true, false, not, List, [], length, Option, Some, None}
use Rattle.std.specs.Prelude.{is_some, if◌then◌else◌}
use Rattle.std.specs.Option.{option_map_or}
use Rattle.serde_json.specs.Data.{Data, Members, no_members, member}
use Rattle.serde_json.specs.Find.{as_object, as_str}
use Rattle.config_lists.specs.Devices.{NamedDevices}
use Rattle.config_lists.specs.Entries.{put}
use Rattle.config_lists.specs.Settings.{Settings}

-- a text of no bytes
abbrev pub is_empty : List ℕ → Bool
is_empty text = length text == 0

-- ---- their form

-- a text under a key that is not empty
abbrev pub is_setting : List ℕ → Data → Bool
is_setting key value = not (is_empty key) && is_some (as_str value)

-- all members are settings
abbrev pub all_settings : Members → Bool
all_settings no_members = true
all_settings (member key value more) = is_setting key value && all_settings more

-- an object of settings
unfoldable pub fits_settings : Data → Bool
fits_settings value = option_map_or all_settings (as_object value) false

-- all members are objects of settings
abbrev pub all_devices : Members → Bool
all_devices no_members = true
all_devices (member name value more) = fits_settings value && all_devices more

-- an object of objects of settings
unfoldable pub fits_devices : Data → Bool
fits_devices value = option_map_or all_devices (as_object value) false

-- ---- what they say

-- the changes with one more key, if its value is a text; an empty text stays, and removes the key later
abbrev pub with_change : Settings → List ℕ → Option (List ℕ) → Settings
with_change changes key None = changes
with_change changes key (Some text) = if is_empty key then changes else put changes key text

-- the changes with each of these members
abbrev pub changes_after : Settings → Members → Settings
changes_after changes no_members = changes
changes_after changes (member key value more) = changes_after (with_change changes key (as_str value)) more

-- the changes that an object names
unfoldable pub changes_of : Data → Settings
changes_of value = option_map_or (changes_after []) (as_object value) []

-- The settings of a device with one more key, if its value is a text. An empty text stands for an absent key, so that
-- it sets nothing.
abbrev pub with_setting : Settings → List ℕ → Option (List ℕ) → Settings
with_setting config key None = config
with_setting config key (Some text) = if is_empty key || is_empty text then config else put config key text

-- the settings with each of these members
abbrev pub settings_after : Settings → Members → Settings
settings_after config no_members = config
settings_after config (member key value more) = settings_after (with_setting config key (as_str value)) more

-- the device that an object describes
unfoldable pub device_of : Data → Settings
device_of value = option_map_or (settings_after []) (as_object value) []

-- the devices with each of these members
abbrev pub devices_after : NamedDevices → Members → NamedDevices
devices_after devices no_members = devices
devices_after devices (member name value more) = devices_after (put devices name (device_of value)) more

-- the devices that an object names
unfoldable pub devices_of : Data → NamedDevices
devices_of value = option_map_or (devices_after []) (as_object value) []
