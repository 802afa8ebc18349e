-- Objects of all kinds as JSON.
use Rattle.std.specs.Prelude.{ℕ, ◌-◌, ◌^◌, ◌==◌, min, if◌then◌else◌, List, [], ◌∷◌, Option, Some, None, true, false}
use Rattle.std.specs.Prelude.{negsuc, map, codes}
use Rattle.size_values.specs.declared.kinds.Power.{Power}
use Rattle.config_lists.specs.Settings.{Settings}
use Rattle.config_lists.specs.Devices.{NamedDevices}
use Rattle.records.specs.declared.rows.Project.{Project}
use Rattle.records.specs.declared.rows.Profile.{Profile}
use Rattle.records.specs.declared.rows.Network.{Network}
use Rattle.records.specs.declared.rows.Pool.{Pool}
use Rattle.records.specs.declared.rows.Volume.{Volume}
use Rattle.records.specs.declared.rows.Instance.{Instance}
use Rattle.records.specs.declared.rows.Snapshot.{Snapshot}
use Rattle.records.specs.declared.replies.UsageLine.{UsageLine}
use Rattle.records.specs.declared.replies.View.{View}
use Rattle.records.specs.declared.replies.View.TheVariants as shown
use Rattle.serde_json.specs.Data.{Data, boolean, string, number, negative, object, Members, no_members, put}
use Rattle.row_machine.specs.machine.StandingRules.{power_text}
use Rattle.rest_json.specs.declared.terms.Dialect.{Dialect}
use Rattle.rest_json.specs.declared.terms.Dialect.TheVariants as dialect
use Rattle.rest_json.specs.declared.terms.Terms.{Terms}
use Rattle.rest_json.specs.Words.{power_code, instance_kind, driver_text, limit_name}
use Rattle.rest_json.specs.Moments.{moment_text}
use Rattle.rest_json.specs.Objects.{object_of, list_of, whole}
use Rattle.rest_json.specs.Settings.{settings_data, devices_data, texts_data}
use Rattle.rest_json.specs.Operations.{operation_data}

-- what the command `incus` is told that this server has; it asks for nothing of which it is not told
abbrev pub extensions : Dialect → List (List ℕ)
extensions dialect.Plain = []
extensions dialect.Client =
    codes "api_filtering" ∷ codes "container_full" ∷ codes "instance_nic_network" ∷ codes "network"
    ∷ codes "network_acl" ∷ codes "network_dns" ∷ codes "network_forward" ∷ codes "project_usage"
    ∷ codes "projects" ∷ codes "storage" ∷ codes "storage_api_local_volume_handling"
    ∷ codes "storage_api_volume_rename" ∷ codes "storage_buckets" ∷ codes "warnings" ∷ []

-- the server
unfoldable pub server_data : Dialect → Data
server_data dialect = object_of (
    (codes "api_extensions", list_of (map string (extensions dialect)))
    ∷ (codes "api_status", string (codes "stable"))
    ∷ (codes "api_version", string (codes "1.0"))
    ∷ (codes "auth", string (codes "trusted"))
    ∷ (codes "public", boolean false)
    ∷ [])

-- a project, with the URLs of what it has
unfoldable pub project_data : Project → List (List ℕ) → Data
project_data project used = object_of (
    (codes "config", settings_data project.config)
    ∷ (codes "description", string project.description)
    ∷ (codes "name", string project.name)
    ∷ (codes "used_by", texts_data used)
    ∷ [])

-- a profile, with the URLs of the instances that name it
unfoldable pub profile_data : Profile → List (List ℕ) → Data
profile_data profile used = object_of (
    (codes "config", settings_data profile.config)
    ∷ (codes "description", string profile.description)
    ∷ (codes "devices", devices_data profile.devices)
    ∷ (codes "name", string profile.name)
    ∷ (codes "project", string profile.project)
    ∷ (codes "used_by", texts_data used)
    ∷ [])

-- a network, with the URLs of what names it
unfoldable pub network_data : Network → List (List ℕ) → Data
network_data network used = object_of (
    (codes "config", settings_data network.config)
    ∷ (codes "description", string network.description)
    ∷ (codes "managed", boolean true)
    ∷ (codes "name", string network.name)
    ∷ (codes "project", string network.project)
    ∷ (codes "type", string (codes "bridge"))
    ∷ (codes "used_by", texts_data used)
    ∷ [])

-- a pool, with the URLs of what names it and of its volumes
unfoldable pub pool_data : Pool → List (List ℕ) → Data
pool_data pool used = object_of (
    (codes "config", settings_data pool.config)
    ∷ (codes "description", string pool.description)
    ∷ (codes "driver", string (driver_text pool.driver))
    ∷ (codes "name", string pool.name)
    ∷ (codes "used_by", texts_data used)
    ∷ [])

-- a volume, with the URLs of what names it
unfoldable pub volume_data : Volume → List (List ℕ) → Data
volume_data volume used = object_of (
    (codes "config", settings_data volume.config)
    ∷ (codes "created_at", string (moment_text volume.created))
    ∷ (codes "description", string volume.description)
    ∷ (codes "name", string volume.name)
    ∷ (codes "pool", string volume.pool)
    ∷ (codes "project", string volume.project)
    ∷ (codes "type", string (codes "custom"))
    ∷ (codes "used_by", texts_data used)
    ∷ [])

-- an instance, with its expanded settings and devices and its status
unfoldable pub instance_data : Instance → Settings → NamedDevices → Power → Data
instance_data instance config devices power = object_of (
    (codes "config", settings_data instance.config)
    ∷ (codes "created_at", string (moment_text instance.created))
    ∷ (codes "description", string instance.description)
    ∷ (codes "devices", devices_data instance.devices)
    ∷ (codes "ephemeral", boolean instance.ephemeral)
    ∷ (codes "expanded_config", settings_data config)
    ∷ (codes "expanded_devices", devices_data devices)
    ∷ (codes "name", string instance.name)
    ∷ (codes "profiles", texts_data instance.profiles)
    ∷ (codes "project", string instance.project)
    ∷ (codes "stateful", boolean false)
    ∷ (codes "status", string (power_text power))
    ∷ (codes "status_code", whole (power_code power))
    ∷ (codes "type", string (instance_kind instance.kind))
    ∷ [])

-- when a snapshot expires; one that does not expire has the first moment of the year 1
unfoldable pub expiry_text : ℕ → List ℕ
expiry_text expires = if expires == 0 then codes "0001-01-01T00:00:00Z" else moment_text expires

-- a snapshot
unfoldable pub snapshot_data : Snapshot → Data
snapshot_data snapshot = object_of (
    (codes "config", settings_data snapshot.config)
    ∷ (codes "created_at", string (moment_text snapshot.created))
    ∷ (codes "devices", devices_data snapshot.devices)
    ∷ (codes "expires_at", string (expiry_text snapshot.expires))
    ∷ (codes "name", string snapshot.name)
    ∷ (codes "profiles", texts_data snapshot.profiles)
    ∷ (codes "stateful", boolean false)
    ∷ [])

-- the state of an instance
unfoldable pub power_data : Power → Data
power_data power = object_of (
    (codes "status", string (power_text power))
    ∷ (codes "status_code", whole (power_code power))
    ∷ [])

-- a limit, which is -1 where none is set
abbrev pub limit_data : Option ℕ → Data
limit_data None = number (negative (negsuc 0))
limit_data (Some limit) = whole limit

-- a limit and how much of it is used; more than 63 bits hold is told as the most that they hold
unfoldable pub line_data : UsageLine → Data
line_data line = object_of (
    (codes "limit", limit_data line.limit)
    ∷ (codes "usage", whole (min line.used (2 ^ 63 - 1)))
    ∷ [])

-- limits put one after the other into an object
abbrev pub put_lines : List UsageLine → Members → Members
put_lines [] members = members
put_lines (line ∷ lines) members = put_lines lines (put (limit_name line.key) (line_data line) members)

-- the limits of a project
unfoldable pub lines_data : List UsageLine → Data
lines_data lines = object (put_lines lines no_members)

-- the state of a project
unfoldable pub usage_data : List UsageLine → Data
usage_data lines = object_of ((codes "resources", lines_data lines) ∷ [])

-- an object of any kind
abbrev pub view_data : Terms → View → Data
view_data terms shown.Server = server_data terms.dialect
view_data terms (shown.Project project used) = project_data project used
view_data terms (shown.Profile profile used) = profile_data profile used
view_data terms (shown.Network network used) = network_data network used
view_data terms (shown.Pool pool used) = pool_data pool used
view_data terms (shown.Volume volume used) = volume_data volume used
view_data terms (shown.Instance instance config devices power) = instance_data instance config devices power
view_data terms (shown.Snapshot snapshot) = snapshot_data snapshot
view_data terms (shown.Power power) = power_data power
view_data terms (shown.Usage lines) = usage_data lines
view_data terms (shown.Op operation) = operation_data terms.boot operation
