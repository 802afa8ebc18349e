-- Settings, devices and lists of texts as JSON.
use Rattle.std.specs.Prelude.{ℕ, List, [], ◌∷◌, map}
use Rattle.config_lists.specs.Settings.{Settings}
use Rattle.config_lists.specs.Devices.{NamedDevices}
use Rattle.serde_json.specs.Data.{Data, string, object, Members, no_members, put}
use Rattle.rest_json.specs.Objects.{list_of}

-- settings put one after the other into an object
abbrev pub put_settings : Settings → Members → Members
put_settings [] members = members
put_settings (setting ∷ settings) members = put_settings settings (put setting.0 (string setting.1) members)

-- settings as an object of texts
unfoldable pub settings_data : Settings → Data
settings_data settings = object (put_settings settings no_members)

-- devices put one after the other into an object
abbrev pub put_devices : NamedDevices → Members → Members
put_devices [] members = members
put_devices (device ∷ devices) members = put_devices devices (put device.0 (settings_data device.1) members)

-- devices as an object of their settings
unfoldable pub devices_data : NamedDevices → Data
devices_data devices = object (put_devices devices no_members)

-- texts as a list
unfoldable pub texts_data : List (List ℕ) → Data
texts_data texts = list_of (map string texts)
