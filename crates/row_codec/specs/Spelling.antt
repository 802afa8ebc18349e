-- The one spelling of each row as an entry: its kind, its key and its body of version 1.
use Rattle.std.specs.Prelude.{ℕ, List, ◌∷◌, ◌++◌}
use Rattle.size_values.specs.declared.entry.Entry.{Entry}
use Rattle.records.specs.declared.rows.Project.{Project}
use Rattle.records.specs.declared.rows.Profile.{Profile}
use Rattle.records.specs.declared.rows.Network.{Network}
use Rattle.records.specs.declared.rows.Pool.{Pool}
use Rattle.records.specs.declared.rows.Volume.{Volume}
use Rattle.records.specs.declared.rows.Instance.{Instance}
use Rattle.records.specs.declared.rows.Snapshot.{Snapshot}
use Rattle.records.specs.declared.rows.Row.{Row}
use Rattle.records.specs.declared.rows.Row.TheVariants as row
unfoldable pub use Rattle.row_codec.specs.FieldSpelling.{text_bytes, number_bytes, list_bytes}
pub use Rattle.row_codec.specs.FieldSpelling.{
  boolean_byte,
  kind_byte,
  driver_byte,
  setting_bytes,
  settings_bytes,
  device_bytes,
  devices_bytes,
  texts_bytes,
}

-- ---- bodies: the version, and the parts

-- the body of a project: description and settings
abbrev pub project_bytes : Project → List ℕ
project_bytes project = (1 ∷ text_bytes project.description) ++ settings_bytes project.config

-- the body of a profile: description, settings and devices
abbrev pub profile_bytes : Profile → List ℕ
profile_bytes profile =
    (1 ∷ text_bytes profile.description) ++ settings_bytes profile.config ++ devices_bytes profile.devices

-- the body of a network: description and settings
abbrev pub network_bytes : Network → List ℕ
network_bytes network = (1 ∷ text_bytes network.description) ++ settings_bytes network.config

-- the body of a pool: driver, description and settings
abbrev pub pool_bytes : Pool → List ℕ
pool_bytes pool = (1 ∷ driver_byte pool.driver ∷ text_bytes pool.description) ++ settings_bytes pool.config

-- the body of a volume: description, settings and the moment of creation
abbrev pub volume_bytes : Volume → List ℕ
volume_bytes volume = (1 ∷ text_bytes volume.description) ++ settings_bytes volume.config ++ number_bytes volume.created

-- the body of an instance: kind, whether ephemeral, description, origin, the moment of creation, profiles, settings and
-- devices
abbrev pub instance_bytes : Instance → List ℕ
instance_bytes instance =
    (1 ∷ kind_byte instance.kind ∷ boolean_byte instance.ephemeral ∷ text_bytes instance.description)
    ++ text_bytes instance.origin
    ++ number_bytes instance.created
    ++ texts_bytes instance.profiles
    ++ settings_bytes instance.config
    ++ devices_bytes instance.devices

-- the body of a snapshot: the moments of creation and of expiry, profiles, settings and devices
abbrev pub snapshot_bytes : Snapshot → List ℕ
snapshot_bytes snapshot =
    (1 ∷ number_bytes snapshot.created)
    ++ number_bytes snapshot.expires
    ++ texts_bytes snapshot.profiles
    ++ settings_bytes snapshot.config
    ++ devices_bytes snapshot.devices

-- the body of a row, by its kind
abbrev pub body_of : Row → List ℕ
body_of (row.Project project) = project_bytes project
body_of (row.Profile profile) = profile_bytes profile
body_of (row.Network network) = network_bytes network
body_of (row.Pool pool) = pool_bytes pool
body_of (row.Volume volume) = volume_bytes volume
body_of (row.Instance instance) = instance_bytes instance
body_of (row.Snapshot snapshot) = snapshot_bytes snapshot

-- ---- kinds and keys

-- the number of the kind of a row
abbrev pub kind_of : Row → ℕ
kind_of (row.Project project) = 1
kind_of (row.Profile profile) = 2
kind_of (row.Network network) = 3
kind_of (row.Pool pool) = 4
kind_of (row.Volume volume) = 5
kind_of (row.Instance instance) = 6
kind_of (row.Snapshot snapshot) = 7

-- two names with a slash between
abbrev pub two_names : List ℕ → List ℕ → List ℕ
two_names first second = first ++ 47 ∷ second

-- three names with slashes between
abbrev pub three_names : List ℕ → List ℕ → List ℕ → List ℕ
three_names first second third = two_names first (two_names second third)

-- the key of a row: its project where it has one, its pool or instance where it stands in one, and its name
abbrev pub key_of : Row → List ℕ
key_of (row.Project project) = project.name
key_of (row.Profile profile) = two_names profile.project profile.name
key_of (row.Network network) = two_names network.project network.name
key_of (row.Pool pool) = pool.name
key_of (row.Volume volume) = three_names volume.project volume.pool volume.name
key_of (row.Instance instance) = two_names instance.project instance.name
key_of (row.Snapshot snapshot) = three_names snapshot.project snapshot.instance snapshot.name

-- the entry that a row is kept as
abbrev pub entry_of : Row → Entry
entry_of row = record { kind = kind_of row; key = key_of row; body = body_of row }
