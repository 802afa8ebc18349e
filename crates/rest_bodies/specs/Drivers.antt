-- The driver of a storage pool in a body.
use Rattle.std.specs.Prelude.{ℕ, List, Option, Some, None, option_and_then, if◌then◌else◌, codes}
use Rattle.std.specs.Str.{bytes_eq}
use Rattle.serde_json.specs.Data.{Data}
use Rattle.serde_json.specs.Find.{as_str}
use Rattle.records.specs.declared.rows.Driver.{Driver}
use Rattle.records.specs.declared.rows.Driver.TheVariants as driver
use Rattle.rest_bodies.specs.Members.{non_null_member}

-- the driver of this name
unfoldable pub driver_of : List ℕ → Option Driver
driver_of name =
    if bytes_eq name (codes "dir") then Some driver.Dir
    else (if bytes_eq name (codes "btrfs") then Some driver.Btrfs
    else (if bytes_eq name (codes "lvm") then Some driver.Lvm
    else (if bytes_eq name (codes "zfs") then Some driver.Zfs
    else None)))

-- the driver that a value names
unfoldable pub driver_in : Data → Option Driver
driver_in value = option_and_then driver_of (as_str value)

-- the driver in a body, if one is given
unfoldable pub driver_at : Data → Option Driver
driver_at body = option_and_then driver_in (non_null_member (codes "driver") body)
