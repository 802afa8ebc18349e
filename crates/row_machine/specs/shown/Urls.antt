-- URLs of objects: the path of an object, and its project where it belongs to one other than `default`.
use Rattle.std.specs.Prelude.{ℕ, List, [], ◌∷◌, ◌++◌, if◌then◌else◌, codes}
use Rattle.std.specs.Str.{bytes_eq}
use Rattle.row_machine.specs.Words.{inserted, ObjectKind, Row, Target}
use Rattle.row_machine.specs.Words.row
use Rattle.size_values.specs.declared.kinds.ObjectKind.TheVariants.{Project, Profile}
use Rattle.size_values.specs.declared.kinds.ObjectKind.TheVariants.{Network, Pool, Volume, Instance}
use Rattle.size_values.specs.declared.kinds.ObjectKind.TheVariants.{Snapshot, Operation}
use Rattle.row_machine.specs.machine.Rows.{default_name, text_before}

-- the query that names a project; `default` needs none
abbrev pub project_query : List ℕ → List ℕ
project_query project = if bytes_eq project default_name then [] else codes "?project=" ++ project

-- the path of an object, by its kind, the pool or instance that it stands in, and its name
abbrev pub path_of : Target → List ℕ
path_of of = path of.kind where
  path : ObjectKind → List ℕ
  path Project = codes "/1.0/projects/" ++ of.name
  path Profile = codes "/1.0/profiles/" ++ of.name
  path Network = codes "/1.0/networks/" ++ of.name
  path Pool = codes "/1.0/storage-pools/" ++ of.name
  path Volume = codes "/1.0/storage-pools/" ++ of.pool ++ codes "/volumes/custom/" ++ of.name
  path Instance = codes "/1.0/instances/" ++ of.name
  path Snapshot = codes "/1.0/instances/" ++ of.instance ++ codes "/snapshots/" ++ of.name
  path Operation = codes "/1.0/operations/" ++ of.name

-- the URL of an object, with its project where it belongs to one; those of projects, pools and operations name none
abbrev pub url_of : List ℕ → Target → List ℕ
url_of project of = path_of of ++ query of.kind where
  query : ObjectKind → List ℕ
  query Project = []
  query Pool = []
  query Operation = []
  query other = project_query project

-- what names a row
abbrev pub target_of : Row → Target
target_of (row.Project project) = record { kind = Project; pool = []; instance = []; name = project.name }
target_of (row.Profile profile) = record { kind = Profile; pool = []; instance = []; name = profile.name }
target_of (row.Network network) = record { kind = Network; pool = []; instance = []; name = network.name }
target_of (row.Pool pool) = record { kind = Pool; pool = []; instance = []; name = pool.name }
target_of (row.Volume volume) = record { kind = Volume; pool = volume.pool; instance = []; name = volume.name }
target_of (row.Instance instance) = record { kind = Instance; pool = []; instance = []; name = instance.name }
target_of (row.Snapshot snapshot) =
    record { kind = Snapshot; pool = []; instance = snapshot.instance; name = snapshot.name }

-- texts in byte order
abbrev pub sorted : List (List ℕ) → List (List ℕ)
sorted [] = []
sorted (text ∷ texts) = inserted (text_before text) text (sorted texts)
