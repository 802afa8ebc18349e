-- What the fields of a body say of an object.
use Rattle.std.specs.Prelude.{ℕ, List, Bool, true, false, Option, None, option_map, codes}
use Rattle.serde_json.specs.Data.{Data}
use Rattle.config_lists.specs.Devices.{NamedDevices}
use Rattle.config_lists.specs.Settings.{Settings}
use Rattle.records.specs.declared.commands.Body.{Body}
use Rattle.records.specs.declared.commands.Origin.{Origin}
use Rattle.records.specs.declared.commands.Origin.TheVariants as origin
use Rattle.rest_bodies.specs.Copies.{copy_origin}
use Rattle.rest_bodies.specs.Drivers.{driver_at}
use Rattle.rest_bodies.specs.Instances.{kind_at, ephemeral_at, instance_origin}
use Rattle.rest_bodies.specs.Members.{non_null_member, text_at}
use Rattle.rest_bodies.specs.Origins.{volume_origin}
use Rattle.rest_bodies.specs.Profiles.{profiles_at}
use Rattle.rest_bodies.specs.Settings.{changes_of, devices_of}
use Rattle.rest_bodies.specs.declared.fields.Shape.{Shape}
use Rattle.rest_bodies.specs.declared.fields.Shape.TheVariants as shape

-- the settings in a body, if they are given
unfoldable pub config_at : Data → Option Settings
config_at body = option_map changes_of (non_null_member (codes "config") body)

-- the devices in a body, if they are given
unfoldable pub devices_at : Data → Option NamedDevices
devices_at body = option_map devices_of (non_null_member (codes "devices") body)

-- a part that bodies of this shape have
abbrev pub part_of : {A : Type 0} → Bool → Option A → Option A
part_of true part = part
part_of false part = None

-- bodies that make or change an instance say what instances alone have
abbrev pub is_of_instances : Shape → Bool
is_of_instances shape.NewInstance = true
is_of_instances shape.InstanceCopy = true
is_of_instances shape.InstancePut = true
is_of_instances shape.InstancePatch = true
is_of_instances other = false

-- bodies of new instances have a kind, which a copy has from what is copied
abbrev pub has_kind : Shape → Bool
has_kind shape.NewInstance = true
has_kind other = false

-- bodies that make or change an object describe it: they have a description and settings, but that of a new snapshot
abbrev pub has_description : Shape → Bool
has_description shape.NewSnapshot = false
has_description shape.Rename = false
has_description shape.InstanceRename = false
has_description shape.StateChange = false
has_description other = true

-- bodies of profiles and instances have devices
abbrev pub has_devices : Shape → Bool
has_devices shape.NewProfile = true
has_devices shape.ProfileChange = true
has_devices other = is_of_instances other

-- bodies of new pools have a driver
abbrev pub has_driver : Shape → Bool
has_driver shape.NewPool = true
has_driver other = false

-- new objects have an origin, if they are instances, or volumes in the pool of their path
abbrev pub origin_of : Shape → Data → List ℕ → Origin
origin_of shape.NewVolume body pool = volume_origin body pool
origin_of shape.NewInstance body pool = instance_origin body
origin_of shape.InstanceCopy body pool = copy_origin body
origin_of other body pool = origin.None

-- what a body says of an object, in the pool of its path
unfoldable pub body_of : Shape → Data → List ℕ → Body
body_of shape body pool = record {
  description = part_of (has_description shape) (text_at (codes "description") body);
  config = part_of (has_description shape) (config_at body);
  devices = part_of (has_devices shape) (devices_at body);
  profiles = part_of (is_of_instances shape) (profiles_at body);
  kind = part_of (has_kind shape) (kind_at body);
  ephemeral = part_of (is_of_instances shape) (ephemeral_at body);
  driver = part_of (has_driver shape) (driver_at body);
  origin = origin_of shape body pool;
}
