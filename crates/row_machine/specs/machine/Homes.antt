-- The project that an object asked for in a project belongs to.
use Rattle.std.specs.Prelude.{if◌then◌else◌}
use Rattle.row_machine.specs.Words.{ℕ, Bool, false, List, codes, option_map_or, ObjectKind, Settings, setting, is_true}
use Rattle.row_machine.specs.Words.{Project, ObjectKind as kind}
use Rattle.row_machine.specs.machine.Rows.{default_name, project_named}

-- a setting that reads as true; an absent one does not
abbrev pub is_on : Settings → List ℕ → Bool
is_on config key = option_map_or is_true (setting config key) false

abbrev pub has_feature : List Project → List ℕ → List ℕ → Bool
has_feature projects name key = option_map_or (λ project. is_on project.config key) (project_named projects name) false

abbrev pub home_by : List Project → List ℕ → List ℕ → List ℕ
home_by projects name key = if has_feature projects name key then name else default_name

-- The home of a project for the objects of a kind: profiles, networks and volumes of a project without the feature
-- belong to the project `default`.
unfoldable pub home_of : List Project → List ℕ → ObjectKind → List ℕ
home_of projects name kind.Profile = home_by projects name (codes "features.profiles")
home_of projects name kind.Network = home_by projects name (codes "features.networks")
home_of projects name kind.Volume = home_by projects name (codes "features.storage.volumes")
home_of projects name other = name
