-- The bodies of new objects, and of PUT and PATCH, are formed: by the parts that a shape has.
use Rattle.std.proofs.Common.{◌≡◌, ℕ, Bool, true, false, List, Option, Some, None, refl, codes}
use Rattle.std.specs.Prelude.{is_some, option_and_then}
use Rattle.std.specs.Option.{option_map_or}
use Rattle.serde_json.specs.Data.{Data}
use Rattle.size_values.specs.declared.kinds.Kind.{Kind}
use Rattle.size_values.specs.declared.kinds.ObjectKind.TheVariants as kind
use Rattle.config_lists.specs.Devices.{NamedDevices}
use Rattle.config_lists.specs.Settings.{Settings}
use Rattle.records.specs.Forms.{are_settings, are_devices, are_profiles, if_allowed, may_come_from, is_creation, is_change}
use Rattle.records.specs.declared.commands.Body.{Body}
use Rattle.records.specs.declared.commands.Origin.{Origin}
use Rattle.records.specs.declared.commands.Origin.TheVariants as origin
use Rattle.records.specs.declared.rows.Driver.{Driver}
use Rattle.rest_bodies.specs.Bodies.{body_of, config_at, devices_at}
use Rattle.rest_bodies.specs.Drivers.{driver_in, driver_at}
use Rattle.rest_bodies.specs.Fields.{fields_of, fault_of, fault_in, first_fault, body_fault, or_next}
use Rattle.rest_bodies.specs.Instances.{kind_at, ephemeral_at, instance_origin}
use Rattle.rest_bodies.specs.Copies.{copy_origin}
use Rattle.rest_bodies.specs.Members.{text_at, non_null_member, unless}
use Rattle.rest_bodies.specs.Origins.{volume_origin}
use Rattle.rest_bodies.specs.Profiles.{profiles_at}
use Rattle.rest_bodies.specs.declared.fields.Field.TheVariants as field
use Rattle.rest_bodies.specs.declared.fields.Shape.TheVariants as shape
use Rattle.rest_routes.proofs.FormedOrigins.{is_new, origin_new, copy_formed, volume_formed}
use Rattle.rest_routes.proofs.FormedProfiles.{profiles_at_formed}
use Rattle.rest_routes.proofs.FormedSettings.{config_formed, devices_at_formed}

-- ---- parts that have their forms

-- a field that may be there
may_be : (there : Bool) → if_allowed there true ≡ true
may_be true = refl
may_be false = refl

-- a body with these parts, which are those of objects without profiles
abbrev with_parts : Option (List ℕ) → Option Settings → Option NamedDevices → Option Driver → Origin → Body
with_parts description config devices driver origin = record {
  description = description;
  config = config;
  devices = devices;
  profiles = None;
  kind = None;
  ephemeral = None;
  driver = driver;
  origin = origin;
}

module _ (description : Option (List ℕ)) (config : Option Settings) (has_config : option_map_or are_settings config true ≡ true) where
  -- of a new project, and in the same way of a network
  creation_parts : is_creation kind.Project (with_parts description config None None origin.None) ≡ true
  creation_parts = rw (may_be (is_some description), may_be (is_some config), has_config) refl

  -- of a change of a project, and in the same way of all objects that have no other fields
  change_parts : is_change kind.Project (with_parts description config None None origin.None) ≡ true
  change_parts = rw (may_be (is_some description), may_be (is_some config), has_config) refl

  -- of a new pool, whose driver is there
  pool_parts : (driver : Option Driver) → is_some driver ≡ true → is_creation kind.Pool (with_parts description config None driver origin.None) ≡ true
  pool_parts driver there = rw (may_be (is_some description), may_be (is_some config), has_config, there) refl

  -- of a new volume
  volume_parts : (from : Origin) → may_come_from kind.Volume from ≡ true → is_creation kind.Volume (with_parts description config None None from) ≡ true
  volume_parts from has_origin = rw (may_be (is_some description), may_be (is_some config), has_config, has_origin) refl

  -- of profiles, which have devices
  module _ (devices : Option NamedDevices) (has_devices : option_map_or are_devices devices true ≡ true) where
    profile_parts : is_creation kind.Profile (with_parts description config devices None origin.None) ≡ true
    profile_parts = rw (may_be (is_some description), may_be (is_some config), may_be (is_some devices), has_config, has_devices) refl

    profile_change_parts : is_change kind.Profile (with_parts description config devices None origin.None) ≡ true
    profile_change_parts = rw (may_be (is_some description), may_be (is_some config), may_be (is_some devices), has_config, has_devices) refl

    -- of instances, which have profiles
    module _ (profiles : Option (List (List ℕ))) (ephemeral : Option Bool) (has_profiles : option_map_or are_profiles profiles true ≡ true) where
      abbrev instance_with : Option Kind → Origin → Body
      instance_with type from = record {
        description = description;
        config = config;
        devices = devices;
        profiles = profiles;
        kind = type;
        ephemeral = ephemeral;
        driver = None;
        origin = from;
      }

      -- of a new one that is no copy
      instance_parts : (type : Option Kind) (from : Origin) → is_new from ≡ true → is_creation kind.Instance (instance_with type from) ≡ true
      instance_parts type origin.None new =
          rw (may_be (is_some description), may_be (is_some config), may_be (is_some devices), may_be (is_some profiles), may_be (is_some type), may_be (is_some ephemeral), has_config, has_devices, has_profiles) refl
      instance_parts type (origin.Image name) new =
          rw (may_be (is_some description), may_be (is_some config), may_be (is_some devices), may_be (is_some profiles), may_be (is_some type), may_be (is_some ephemeral), has_config, has_devices, has_profiles) refl
      instance_parts type (origin.Copy from snapshot pool) new = cc

      -- of a copy, whose kind is that of what is copied
      copy_parts : (from : Origin) → may_come_from kind.Instance from ≡ true → is_creation kind.Instance (instance_with None from) ≡ true
      copy_parts origin.None has_origin = instance_parts None origin.None refl
      copy_parts (origin.Image name) has_origin = instance_parts None (origin.Image name) refl
      copy_parts (origin.Copy from snapshot pool) has_origin =
          rw (may_be (is_some description), may_be (is_some config), may_be (is_some devices), may_be (is_some profiles), may_be (is_some ephemeral), has_config, has_devices, has_profiles, has_origin) refl

      -- of PUT and PATCH
      instance_change_parts : is_change kind.Instance (instance_with None origin.None) ≡ true
      instance_change_parts =
          rw (may_be (is_some description), may_be (is_some config), may_be (is_some devices), may_be (is_some profiles), may_be (is_some ephemeral), has_config, has_devices, has_profiles) refl

-- ---- fields that were judged

-- of a field without a fault, and of those after it
fine_first : (here next : Option (List ℕ)) → or_next here next ≡ None → here ≡ None
fine_first None next h = refl
fine_first (Some key) next h = h

fine_next : (here next : Option (List ℕ)) → or_next here next ≡ None → next ≡ None
fine_next None next h = h
fine_next (Some key) next h = cc

-- a driver that is not at fault is there
driver_there : (body : Data) → fault_of field.Driver body ≡ None → is_some (driver_at body) ≡ true
unfolding fault_of driver_at
driver_there body h = by (non_null_member (codes "driver") body) h
  where
    named_one : (driver : Option Driver) → unless (is_some driver) (codes "driver") ≡ None → is_some driver ≡ true
    named_one None h = cc
    named_one (Some d) h = refl

    by : (o : Option Data) → fault_in field.Driver o ≡ None → is_some (option_and_then driver_in o) ≡ true
    by None h = cc
    by (Some value) h = named_one (driver_in value) h

-- the body of a new pool that was judged has a driver
pool_driver : (body : Data) → body_fault shape.NewPool body ≡ None → is_some (driver_at body) ≡ true
unfolding body_fault
pool_driver body h = driver_there body (fine_first _ _ (fine_next (fault_of field.Name body) _ h))

-- the profiles of an instance whose body was judged
abbrev HasProfiles : Data → Type 0
HasProfiles body = option_map_or are_profiles (profiles_at body) true ≡ true

instance_profiles : (body : Data) → body_fault shape.NewInstance body ≡ None → HasProfiles body
unfolding body_fault
instance_profiles body h =
    profiles_at_formed body
    (fine_first _ _
    (fine_next (fault_of field.InstanceSource body) _
    (fine_next (fault_of field.InstanceType body) _
    (fine_next (fault_of field.Name body) _ h))))

copy_profiles : (body : Data) → body_fault shape.InstanceCopy body ≡ None → HasProfiles body
unfolding body_fault
copy_profiles body h =
    profiles_at_formed body
    (fine_first _ _
    (fine_next (fault_of field.InstanceSource body) _
    (fine_next (fault_of field.Name body) _ h)))

-- PUT and PATCH judge profiles after three other fields, PUT where it does not restore
pub put_profiles : (body : Data) → first_fault (fields_of shape.InstancePut) body ≡ None → HasProfiles body
put_profiles body h =
    profiles_at_formed body
    (fine_first _ _
    (fine_next (fault_of field.Devices body) _
    (fine_next (fault_of field.Config body) _
    (fine_next (fault_of field.Description body) _ h))))

patch_profiles : (body : Data) → body_fault shape.InstancePatch body ≡ None → HasProfiles body
unfolding body_fault
patch_profiles body h =
    profiles_at_formed body
    (fine_first _ _
    (fine_next (fault_of field.Devices body) _
    (fine_next (fault_of field.Config body) _
    (fine_next (fault_of field.Description body) _ h))))

-- ---- bodies by their shapes

module _ (body : Data) (pool : List ℕ) where
  pub project_formed : is_creation kind.Project (body_of shape.NewProject body pool) ≡ true
  unfolding body_of
  project_formed = creation_parts (text_at (codes "description") body) (config_at body) (config_formed body)

  pub profile_formed : is_creation kind.Profile (body_of shape.NewProfile body pool) ≡ true
  unfolding body_of
  profile_formed = profile_parts (text_at (codes "description") body) (config_at body) (config_formed body) (devices_at body) (devices_at_formed body)

  pub network_formed : is_creation kind.Network (body_of shape.NewNetwork body pool) ≡ true
  unfolding body_of
  network_formed = creation_parts (text_at (codes "description") body) (config_at body) (config_formed body)

  pub pool_formed : body_fault shape.NewPool body ≡ None → is_creation kind.Pool (body_of shape.NewPool body pool) ≡ true
  unfolding body_of
  pool_formed fine = pool_parts (text_at (codes "description") body) (config_at body) (config_formed body) (driver_at body) (pool_driver body fine)

  pub volume_body_formed : is_creation kind.Volume (body_of shape.NewVolume body pool) ≡ true
  unfolding body_of
  volume_body_formed = volume_parts (text_at (codes "description") body) (config_at body) (config_formed body) (volume_origin body pool) (volume_formed body pool)

  pub instance_formed : body_fault shape.NewInstance body ≡ None → is_creation kind.Instance (body_of shape.NewInstance body pool) ≡ true
  unfolding body_of
  instance_formed fine =
      instance_parts (text_at (codes "description") body) (config_at body) (config_formed body) (devices_at body) (devices_at_formed body)
      (profiles_at body) (ephemeral_at body) (instance_profiles body fine) (kind_at body) (instance_origin body) (origin_new body)

  pub copy_body_formed : body_fault shape.InstanceCopy body ≡ None → is_creation kind.Instance (body_of shape.InstanceCopy body pool) ≡ true
  unfolding body_of
  copy_body_formed fine =
      copy_parts (text_at (codes "description") body) (config_at body) (config_formed body) (devices_at body) (devices_at_formed body)
      (profiles_at body) (ephemeral_at body) (copy_profiles body fine) (copy_origin body) (copy_formed body)

  pub snapshot_formed : is_creation kind.Snapshot (body_of shape.NewSnapshot body pool) ≡ true
  unfolding body_of
  snapshot_formed = refl

  pub change_formed : is_change kind.Project (body_of shape.Change body pool) ≡ true
  unfolding body_of
  change_formed = change_parts (text_at (codes "description") body) (config_at body) (config_formed body)

  pub profile_change_formed : is_change kind.Profile (body_of shape.ProfileChange body pool) ≡ true
  unfolding body_of
  profile_change_formed = profile_change_parts (text_at (codes "description") body) (config_at body) (config_formed body) (devices_at body) (devices_at_formed body)

  pub instance_put_formed : HasProfiles body → is_change kind.Instance (body_of shape.InstancePut body pool) ≡ true
  unfolding body_of
  instance_put_formed fine =
      instance_change_parts (text_at (codes "description") body) (config_at body) (config_formed body) (devices_at body) (devices_at_formed body)
      (profiles_at body) (ephemeral_at body) fine

  pub instance_patch_formed : body_fault shape.InstancePatch body ≡ None → is_change kind.Instance (body_of shape.InstancePatch body pool) ≡ true
  unfolding body_of
  instance_patch_formed fine =
      instance_change_parts (text_at (codes "description") body) (config_at body) (config_formed body) (devices_at body) (devices_at_formed body)
      (profiles_at body) (ephemeral_at body) (patch_profiles body fine)
