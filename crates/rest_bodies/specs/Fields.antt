-- The fields of bodies: which a request has, in which form and order.
use Rattle.std.specs.Prelude.{◌≡◌, ℕ, Bool, false, List, [], ◌∷◌, ◌++◌, Option, Some, None, is_some, is_none}
use Rattle.std.specs.Prelude.{if◌then◌else◌, codes}
use Rattle.serde_json.specs.Data.{Data}
use Rattle.serde_json.specs.Find.{as_bool, as_str}
use Rattle.rest_bodies.specs.Actions.{action_in}
use Rattle.rest_bodies.specs.Drivers.{driver_in}
use Rattle.rest_bodies.specs.Instances.{kind_in, is_false, restore_at, source_fault}
use Rattle.rest_bodies.specs.Members.{non_null_member, is_word, unless}
use Rattle.rest_bodies.specs.Origins.{fits_source}
use Rattle.rest_bodies.specs.Profiles.{fits_profiles}
use Rattle.rest_bodies.specs.Settings.{fits_settings, fits_devices}
use Rattle.rest_bodies.specs.declared.fields.Field.{Field}
use Rattle.rest_bodies.specs.declared.fields.Field.TheVariants as field
use Rattle.rest_bodies.specs.declared.fields.Shape.{Shape}
use Rattle.rest_bodies.specs.declared.fields.Shape.TheVariants as shape

-- the fields of a body, in the order in which they are judged
abbrev pub fields_of : Shape → List Field
fields_of shape.NewProject = field.Name ∷ field.Description ∷ field.Config ∷ []
fields_of shape.NewProfile = field.Name ∷ field.Description ∷ field.Config ∷ field.Devices ∷ []
fields_of shape.NewNetwork = field.Name ∷ field.NetworkType ∷ field.Description ∷ field.Config ∷ []
fields_of shape.NewPool = field.Name ∷ field.Driver ∷ field.Description ∷ field.Config ∷ []
fields_of shape.NewVolume = field.Name ∷ field.VolumeType ∷ field.Description ∷ field.Config ∷ field.VolumeSource ∷ []
fields_of shape.NewInstance =
    field.Name ∷ field.InstanceType ∷ field.InstanceSource ∷ field.Profiles ∷ field.Config ∷ field.Devices
    ∷ field.Ephemeral ∷ field.Description ∷ field.Start ∷ []
fields_of shape.InstanceCopy =
    field.Name ∷ field.InstanceSource ∷ field.Profiles ∷ field.Config ∷ field.Devices ∷ field.Ephemeral
    ∷ field.Description ∷ field.Start ∷ []
fields_of shape.NewSnapshot = field.SnapshotName ∷ field.Stateful ∷ []
fields_of shape.Change = field.Description ∷ field.Config ∷ []
fields_of shape.ProfileChange = field.Description ∷ field.Config ∷ field.Devices ∷ []
fields_of shape.InstancePut =
    field.Description ∷ field.Config ∷ field.Devices ∷ field.Profiles ∷ field.Ephemeral ∷ field.Restore ∷ []
fields_of shape.InstancePatch = field.Description ∷ field.Config ∷ field.Devices ∷ field.Profiles ∷ field.Ephemeral ∷ []
fields_of shape.Rename = field.Name ∷ []
fields_of shape.InstanceRename = field.Name ∷ field.Migration ∷ field.Project ∷ []
fields_of shape.StateChange = field.Action ∷ field.Stateful ∷ []

-- the key of a field
abbrev pub key_of : Field → List ℕ
key_of field.Name = codes "name"
key_of field.SnapshotName = codes "name"
key_of field.Driver = codes "driver"
key_of field.NetworkType = codes "type"
key_of field.VolumeType = codes "type"
key_of field.InstanceType = codes "type"
key_of field.Description = codes "description"
key_of field.Config = codes "config"
key_of field.Devices = codes "devices"
key_of field.Profiles = codes "profiles"
key_of field.Ephemeral = codes "ephemeral"
key_of field.VolumeSource = codes "source"
key_of field.InstanceSource = codes "source"
key_of field.Start = codes "start"
key_of field.Stateful = codes "stateful"
key_of field.Migration = codes "migration"
key_of field.Project = codes "project"
key_of field.Action = codes "action"
key_of field.Restore = codes "restore"

-- the value has the form of the field
abbrev pub value_fits : Field → Data → Bool
value_fits field.Name value = is_some (as_str value)
value_fits field.SnapshotName value = is_some (as_str value)
value_fits field.Driver value = is_some (driver_in value)
value_fits field.NetworkType value = is_word (codes "bridge") value
value_fits field.VolumeType value = is_word (codes "custom") value
value_fits field.InstanceType value = is_some (kind_in value)
value_fits field.Description value = is_some (as_str value)
value_fits field.Config value = fits_settings value
value_fits field.Devices value = fits_devices value
value_fits field.Profiles value = fits_profiles value
value_fits field.Ephemeral value = is_some (as_bool value)
value_fits field.VolumeSource value = fits_source value
value_fits field.InstanceSource value = is_none (source_fault value)
value_fits field.Start value = is_false value
value_fits field.Stateful value = is_false value
value_fits field.Migration value = is_false value
value_fits field.Project value = false
value_fits field.Action value = is_some (action_in value)
value_fits field.Restore value = is_some (as_str value)

-- the fault of a value: the source of an instance tells which of its parts is at fault
abbrev pub value_fault : Field → Data → Option (List ℕ)
value_fault field.InstanceSource value = source_fault value
value_fault other value = unless (value_fits other value) (key_of other)

-- a name, a driver, the source of an instance and an action have to be given, and other fields may be absent
abbrev pub absent_fault : Field → Option (List ℕ)
absent_fault field.Name = Some (codes "name")
absent_fault field.Driver = Some (codes "driver")
absent_fault field.InstanceSource = Some (codes "source")
absent_fault field.Action = Some (codes "action")
absent_fault other = None

-- the fault of a field, by its value if one is given
abbrev pub fault_in : Field → Option Data → Option (List ℕ)
fault_in field None = absent_fault field
fault_in field (Some value) = value_fault field value

-- the key of a field that is at fault in a body
unfoldable pub fault_of : Field → Data → Option (List ℕ)
fault_of field body = fault_in field (non_null_member (key_of field) body)

-- the first fault, or else the next
abbrev pub or_next : Option (List ℕ) → Option (List ℕ) → Option (List ℕ)
or_next None next = next
or_next (Some key) next = Some key

-- the key of the first of these fields that is at fault
abbrev pub first_fault : List Field → Data → Option (List ℕ)
first_fault [] body = None
first_fault (field ∷ fields) body = or_next (fault_of field body) (first_fault fields body)

-- the fields that are judged: those of the shape, but none where an instance is put back to a snapshot
abbrev pub judged_fields : Shape → Data → List Field
judged_fields shape.InstancePut body = if is_some (restore_at body) then [] else fields_of shape.InstancePut
judged_fields other body = fields_of other

-- the key of the first field that is at fault in a body of this shape
unfoldable pub body_fault : Shape → Data → Option (List ℕ)
body_fault shape body = first_fault (judged_fields shape body) body

-- the key is that of one of these fields, which is at fault, and no field before it is
pub record IsFirstBad (fields : List Field) (body : Data) (key : List ℕ) : Type 0 where
  pub before : List Field
  pub bad : Field
  pub after : List Field
  pub is : fields ≡ before ++ bad ∷ after
  pub none_before : first_fault before body ≡ None
  pub is_bad : fault_of bad body ≡ Some key
