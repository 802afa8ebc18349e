-- An entry read from left to right: the row that it spells, or the first damage with its place.
use Rattle.std.specs.Prelude.{ℕ, Bool, ◌-◌, ◌==◌, ◌&&◌, List, [], ◌∷◌, length, Result, Ok, Err, if◌then◌else◌}
use Rattle.std.specs.List.{before_first, after_first}
use Rattle.size_values.specs.declared.kinds.ObjectKind.{ObjectKind}
use Rattle.size_values.specs.declared.kinds.ObjectKind.TheVariants as kind
use Rattle.size_values.specs.declared.memory.Or.{Or}
use Rattle.size_values.specs.declared.memory.Or.TheVariants as or
use Rattle.size_values.specs.declared.entry.Entry.{Entry}
use Rattle.estate_rules.specs.Names.{good_name_of}
use Rattle.records.specs.declared.rows.Project.{Project}
use Rattle.records.specs.declared.rows.Profile.{Profile}
use Rattle.records.specs.declared.rows.Network.{Network}
use Rattle.records.specs.declared.rows.Pool.{Pool}
use Rattle.records.specs.declared.rows.Volume.{Volume}
use Rattle.records.specs.declared.rows.Instance.{Instance}
use Rattle.records.specs.declared.rows.Snapshot.{Snapshot}
use Rattle.records.specs.declared.rows.Row.{Row}
use Rattle.records.specs.declared.rows.Row.TheVariants as row
use Rattle.row_codec.specs.declared.unreadable.Unreadable.{Unreadable}
use Rattle.row_codec.specs.declared.damage.Damaged.{Damaged}
use Rattle.row_codec.specs.declared.damage.Damaged.TheVariants as damaged
unfoldable pub use Rattle.row_codec.specs.FieldReading.{
  count_at,
  number_at,
  moment_at,
  code_at,
  text_at,
  items_at,
  list_at,
  filled_at,
  next_at,
  next_filled_at,
  setting_at,
  device_at,
  shape_at,
}
pub use Rattle.row_codec.specs.FieldReading.{
  ◌>>=◌,
  Fails,
  Gives,
  IsRead,
  Read,
  stops_at,
  boolean_of,
  instance_kind_of,
  driver_of,
  meant_at,
  last_of,
  added,
  is_next,
  IsLast,
  is_empty,
  settings_at,
  devices_at,
  texts_at,
}

-- ---- bodies: the names are those of the key

-- the bytes after the version, which is 1
abbrev pub version_at : List ℕ → Result (List ℕ) Unreadable
version_at [] = stops_at []
version_at (version ∷ rest) = if version == 1 then Ok rest else stops_at (version ∷ rest)

-- nothing is left over
abbrev pub ended : List ℕ → Result (Unit {0}) Unreadable
ended [] = Ok tt
ended (byte ∷ rest) = stops_at (byte ∷ rest)

-- the body of a project: description and settings
unfoldable pub project_in : List ℕ → List ℕ → Result Project Unreadable
project_in name body = do
  rest ← version_at body
  description ← text_at rest
  config ← settings_at description.1
  end ← ended config.1
  Ok (record { name = name; description = description.0; config = config.0 })

-- the body of a profile: description, settings and devices
unfoldable pub profile_in : List ℕ → List ℕ → List ℕ → Result Profile Unreadable
profile_in project name body = do
  rest ← version_at body
  description ← text_at rest
  config ← settings_at description.1
  devices ← devices_at config.1
  end ← ended devices.1
  Ok (record { project = project; name = name; description = description.0; config = config.0; devices = devices.0 })

-- the body of a network: description and settings
unfoldable pub network_in : List ℕ → List ℕ → List ℕ → Result Network Unreadable
network_in project name body = do
  rest ← version_at body
  description ← text_at rest
  config ← settings_at description.1
  end ← ended config.1
  Ok (record { project = project; name = name; description = description.0; config = config.0 })

-- the body of a pool: driver, description and settings
unfoldable pub pool_in : List ℕ → List ℕ → Result Pool Unreadable
pool_in name body = do
  rest ← version_at body
  driver ← code_at driver_of rest
  description ← text_at driver.1
  config ← settings_at description.1
  end ← ended config.1
  Ok (record { name = name; driver = driver.0; description = description.0; config = config.0 })

-- the body of a volume: description, settings and the moment of creation
unfoldable pub volume_in : List ℕ → List ℕ → List ℕ → List ℕ → Result Volume Unreadable
volume_in project pool name body = do
  rest ← version_at body
  description ← text_at rest
  config ← settings_at description.1
  created ← moment_at config.1
  end ← ended created.1
  Ok (record {
    project = project;
    pool = pool;
    name = name;
    description = description.0;
    config = config.0;
    created = created.0;
  })

-- the body of an instance: kind, whether ephemeral, description, origin, the moment of creation, profiles, settings and
-- devices
unfoldable pub instance_in : List ℕ → List ℕ → List ℕ → Result Instance Unreadable
instance_in project name body = do
  rest ← version_at body
  kind ← code_at instance_kind_of rest
  ephemeral ← code_at boolean_of kind.1
  description ← text_at ephemeral.1
  origin ← text_at description.1
  created ← moment_at origin.1
  shape ← shape_at created.1
  end ← ended shape.1
  Ok (record {
    project = project;
    name = name;
    kind = kind.0;
    ephemeral = ephemeral.0;
    description = description.0;
    origin = origin.0;
    created = created.0;
    profiles = shape.0.profiles;
    config = shape.0.config;
    devices = shape.0.devices;
  })

-- the body of a snapshot: the moments of creation and of expiry, profiles, settings and devices
unfoldable pub snapshot_in : List ℕ → List ℕ → List ℕ → List ℕ → Result Snapshot Unreadable
snapshot_in project instance name body = do
  rest ← version_at body
  created ← moment_at rest
  expires ← moment_at created.1
  shape ← shape_at expires.1
  end ← ended shape.1
  Ok (record {
    project = project;
    instance = instance;
    name = name;
    created = created.0;
    expires = expires.0;
    profiles = shape.0.profiles;
    config = shape.0.config;
    devices = shape.0.devices;
  })

-- the place of what cannot be read, in a body of this length
abbrev pub placed : {A : Type 0} → ℕ → Result A Unreadable → Result A Damaged
placed len (Ok value) = Ok value
placed len (Err unreadable) = Err (damaged.Body (len - unreadable.left))

-- the same of what a function returned, to which memory may be wanting
abbrev pub damage_of : ℕ → Or Unreadable → Or Damaged
damage_of len or.NoMemory = or.NoMemory
damage_of len (or.Why unreadable) = or.Why (damaged.Body (len - unreadable.left))

-- ---- keys

-- the byte that stands between names
abbrev pub is_slash : ℕ → Bool
is_slash byte = byte == 47

-- two names with a slash between, both good
unfoldable pub two_names_in : ObjectKind → ObjectKind → List ℕ → Result (List ℕ × List ℕ) Damaged
two_names_in first second key =
    if good_name_of first (before_first is_slash key) && good_name_of second (after_first is_slash key)
    then Ok (before_first is_slash key, after_first is_slash key)
    else Err damaged.Key

-- three names with slashes between, all good
unfoldable pub three_names_in : ObjectKind → ObjectKind → ObjectKind → List ℕ
    → Result (List ℕ × List ℕ × List ℕ) Damaged
three_names_in first second third key =
    if good_name_of first (before_first is_slash key)
    then (two_names_in second third (after_first is_slash key) >>= λ names. Ok (
      before_first is_slash key,
      names.0,
      names.1,
    ))
    else Err damaged.Key

-- ---- entries, by their keys and bodies

-- a project, whose name is the key
unfoldable pub read_project : List ℕ → List ℕ → Result Project Damaged
read_project key body = if good_name_of kind.Project key
    then placed (length body) (project_in key body) else Err damaged.Key

-- a profile, whose key is PROJECT/NAME
unfoldable pub read_profile : List ℕ → List ℕ → Result Profile Damaged
read_profile key body = do
  names ← two_names_in kind.Project kind.Profile key
  placed (length body) (profile_in names.0 names.1 body)

-- a network, whose key is PROJECT/NAME
unfoldable pub read_network : List ℕ → List ℕ → Result Network Damaged
read_network key body = do
  names ← two_names_in kind.Project kind.Network key
  placed (length body) (network_in names.0 names.1 body)

-- a pool, whose name is the key
unfoldable pub read_pool : List ℕ → List ℕ → Result Pool Damaged
read_pool key body = if good_name_of kind.Pool key then placed (length body) (pool_in key body) else Err damaged.Key

-- a volume, whose key is PROJECT/POOL/NAME
unfoldable pub read_volume : List ℕ → List ℕ → Result Volume Damaged
read_volume key body = do
  names ← three_names_in kind.Project kind.Pool kind.Volume key
  placed (length body) (volume_in names.0 names.1 names.2 body)

-- an instance, whose key is PROJECT/NAME
unfoldable pub read_instance : List ℕ → List ℕ → Result Instance Damaged
read_instance key body = do
  names ← two_names_in kind.Project kind.Instance key
  placed (length body) (instance_in names.0 names.1 body)

-- a snapshot, whose key is PROJECT/INSTANCE/NAME
unfoldable pub read_snapshot : List ℕ → List ℕ → Result Snapshot Damaged
read_snapshot key body = do
  names ← three_names_in kind.Project kind.Instance kind.Snapshot key
  placed (length body) (snapshot_in names.0 names.1 names.2 body)

-- what was read, as f makes it
abbrev pub mapped : {A B E : Type 0} → (A → B) → Result A E → Result B E
mapped f (Ok value) = Ok (f value)
mapped f (Err error) = Err error

-- by the number of the kind, the key and the body
unfoldable pub row_at : ℕ → List ℕ → List ℕ → Result Row Damaged
row_at number key body =
    if number == 1 then mapped row.Project (read_project key body)
    else (if number == 2 then mapped row.Profile (read_profile key body)
    else (if number == 3 then mapped row.Network (read_network key body)
    else (if number == 4 then mapped row.Pool (read_pool key body)
    else (if number == 5 then mapped row.Volume (read_volume key body)
    else (if number == 6 then mapped row.Instance (read_instance key body)
    else (if number == 7 then mapped row.Snapshot (read_snapshot key body)
    else Err damaged.Kind))))))

-- the row that the entry spells, or the damage
abbrev pub row_of : Entry → Result Row Damaged
row_of entry = row_at entry.kind entry.key entry.body
