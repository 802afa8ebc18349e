-- Which networks, pools and volumes a list of devices names.
use Rattle.std.specs.Prelude.{ℕ, Bool, ◌&&◌, List, codes}
use Rattle.std.specs.List.{list_any}
use Rattle.std.specs.Map.{values_of}
use Rattle.config_lists.specs.Devices.{NamedDevices}
use Rattle.config_lists.specs.Settings.{Settings, has_setting}

-- a nic on this network
abbrev pub is_nic_on : List ℕ → Settings → Bool
is_nic_on network device = has_setting device (codes "type") (codes "nic")
    && has_setting device (codes "network") network

-- a disk in this pool
abbrev pub is_disk_in : List ℕ → Settings → Bool
is_disk_in pool device = has_setting device (codes "type") (codes "disk") && has_setting device (codes "pool") pool

-- a disk that is this volume of this pool
abbrev pub is_volume_of : List ℕ → List ℕ → Settings → Bool
is_volume_of pool volume device = is_disk_in pool device && has_setting device (codes "source") volume

-- some device names this network
unfoldable pub names_network : NamedDevices → List ℕ → Bool
names_network devices network = list_any (is_nic_on network) (values_of devices)

-- some device names this pool
unfoldable pub names_pool : NamedDevices → List ℕ → Bool
names_pool devices pool = list_any (is_disk_in pool) (values_of devices)

-- some device names this volume
unfoldable pub names_volume : NamedDevices → List ℕ → List ℕ → Bool
names_volume devices pool volume = list_any (is_volume_of pool volume) (values_of devices)
