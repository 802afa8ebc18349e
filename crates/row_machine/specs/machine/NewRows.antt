-- The rows that commands make: of a creation, a PUT, a PATCH, a rename, a restore and a snapshot.
use Rattle.std.specs.Prelude.{◌∷◌, if◌then◌else◌}
use Rattle.row_machine.specs.Words.{ℕ, false, List, [], is_none, codes, unwrap_or, fold, option_map_or, Kind, Container}
use Rattle.row_machine.specs.Words.{Settings, setting, settled, patched, put, NamedDevices, Target, Origin, Body}
use Rattle.row_machine.specs.Words.{Driver as driver, Origin as origin, put_each, Project, Profile, Network, Pool}
use Rattle.row_machine.specs.Words.{Volume, Instance, Snapshot}
use Rattle.row_machine.specs.Estate.{default_name}

-- ---- parts of a body; a creation and a PUT take an absent part as empty, a PATCH leaves it

abbrev pub new_description : Body → List ℕ
new_description body = unwrap_or body.description []

-- the settings, without those that are empty
abbrev pub new_config : Body → Settings
new_config body = option_map_or settled body.config []

abbrev pub new_devices : Body → NamedDevices
new_devices body = unwrap_or body.devices []

abbrev pub patched_description : List ℕ → Body → List ℕ
patched_description old body = unwrap_or body.description old

abbrev pub patched_config : Settings → Body → Settings
patched_config old body = option_map_or (patched old) body.config old

abbrev pub patched_devices : NamedDevices → Body → NamedDevices
patched_devices old body = option_map_or (put_each old) body.devices old

-- a feature that a new project does not name is on
abbrev pub feature_on : Settings → List ℕ → Settings
feature_on config key = if is_none (setting config key) then put config key (codes "true") else config

-- all features but that of networks
abbrev pub with_features : Settings → Settings
with_features config =
    fold feature_on config
    (codes "features.profiles"
    ∷ codes "features.storage.volumes"
    ∷ codes "features.images"
    ∷ codes "features.storage.buckets"
    ∷ [])

abbrev pub made_project : List ℕ → Body → Project
made_project name body =
    record { name = name; description = new_description body; config = with_features (new_config body) }

abbrev pub made_profile : List ℕ → List ℕ → Body → Profile
made_profile project name body = record {
  project = project;
  name = name;
  description = new_description body;
  config = new_config body;
  devices = new_devices body;
}

abbrev pub default_profile : List ℕ → Profile
default_profile project = record { project = project; name = default_name; description = []; config = []; devices = [] }

abbrev pub made_network : List ℕ → List ℕ → Body → Network
made_network project name body =
    record { project = project; name = name; description = new_description body; config = new_config body }

abbrev pub made_pool : List ℕ → Body → Pool
made_pool name body = record {
  name = name;
  driver = unwrap_or body.driver driver.Dir;
  description = new_description body;
  config = new_config body;
}

abbrev pub made_volume : List ℕ → Target → Body → ℕ → Volume
made_volume project of body moment = record {
  project = project;
  pool = of.pool;
  name = of.name;
  description = new_description body;
  config = new_config body;
  created = moment;
}

-- a copy has the settings of its source, patched
abbrev pub copied_volume : List ℕ → Target → Body → ℕ → Volume → Volume
copied_volume project of body moment source =
    record (made_volume project of body moment) { config = patched_config source.config body }

abbrev pub image_of : Origin → List ℕ
image_of (origin.Image alias) = alias
image_of other = []

-- without `profiles` an instance has the profile `default` alone
abbrev pub made_instance : List ℕ → List ℕ → Body → ℕ → Instance
made_instance project name body moment = record {
  project = project;
  name = name;
  kind = unwrap_or body.kind Container;
  ephemeral = unwrap_or body.ephemeral false;
  description = new_description body;
  origin = image_of body.origin;
  created = moment;
  profiles = unwrap_or body.profiles (default_name ∷ []);
  config = new_config body;
  devices = new_devices body;
}

pub record Source : Type 0 where
  pub kind : Kind
  pub profiles : List (List ℕ)
  pub config : Settings
  pub devices : NamedDevices

abbrev pub source_instance : Instance → Source
source_instance instance =
    record { kind = instance.kind; profiles = instance.profiles; config = instance.config; devices = instance.devices }

abbrev pub source_snapshot : Instance → Snapshot → Source
source_snapshot instance snapshot =
    record { kind = instance.kind; profiles = snapshot.profiles; config = snapshot.config; devices = snapshot.devices }

-- A copy has the kind of its source, the source's profiles where none are given, its settings patched by the request's,
-- and its devices replaced by the request's.
abbrev pub copied_instance : List ℕ → List ℕ → Body → ℕ → Source → Instance
copied_instance project name body moment source = record (made_instance project name body moment) {
  kind = source.kind;
  profiles = unwrap_or body.profiles source.profiles;
  config = patched_config source.config body;
  devices = patched_devices source.devices body;
}

abbrev pub made_snapshot : Instance → List ℕ → ℕ → Snapshot
made_snapshot instance name moment = record {
  project = instance.project;
  instance = instance.name;
  name = name;
  created = moment;
  expires = 0;
  profiles = instance.profiles;
  config = instance.config;
  devices = instance.devices;
}

-- ---- PUT: what the body leaves out is empty

abbrev pub put_project : Project → Body → Project
put_project project body = record project { description = new_description body; config = new_config body }

abbrev pub put_profile : Profile → Body → Profile
put_profile profile body =
    record profile { description = new_description body; config = new_config body; devices = new_devices body }

abbrev pub put_network : Network → Body → Network
put_network network body = record network { description = new_description body; config = new_config body }

abbrev pub put_pool : Pool → Body → Pool
put_pool pool body = record pool { description = new_description body; config = new_config body }

abbrev pub put_volume : Volume → Body → Volume
put_volume volume body = record volume { description = new_description body; config = new_config body }

abbrev pub put_instance : Instance → Body → Instance
put_instance instance body = record instance {
  description = new_description body;
  ephemeral = unwrap_or body.ephemeral false;
  profiles = unwrap_or body.profiles [];
  config = new_config body;
  devices = new_devices body;
}

-- ---- PATCH: what the body leaves out stays

abbrev pub patched_project : Project → Body → Project
patched_project project body = record project {
  description = patched_description project.description body;
  config = patched_config project.config body;
}

abbrev pub patched_profile : Profile → Body → Profile
patched_profile profile body = record profile {
  description = patched_description profile.description body;
  config = patched_config profile.config body;
  devices = patched_devices profile.devices body;
}

abbrev pub patched_network : Network → Body → Network
patched_network network body = record network {
  description = patched_description network.description body;
  config = patched_config network.config body;
}

abbrev pub patched_pool : Pool → Body → Pool
patched_pool pool body =
    record pool { description = patched_description pool.description body; config = patched_config pool.config body }

abbrev pub patched_volume : Volume → Body → Volume
patched_volume volume body = record volume {
  description = patched_description volume.description body;
  config = patched_config volume.config body;
}

abbrev pub patched_instance : Instance → Body → Instance
patched_instance instance body = record instance {
  description = patched_description instance.description body;
  ephemeral = unwrap_or body.ephemeral instance.ephemeral;
  profiles = unwrap_or body.profiles instance.profiles;
  config = patched_config instance.config body;
  devices = patched_devices instance.devices body;
}

abbrev pub restored_instance : Instance → Snapshot → Instance
restored_instance instance snapshot =
    record instance { profiles = snapshot.profiles; config = snapshot.config; devices = snapshot.devices }
