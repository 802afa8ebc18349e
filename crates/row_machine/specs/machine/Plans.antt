-- What each command makes of the state: nothing, changes of rows at once, or a background operation.
use Rattle.std.specs.Prelude.{◌==◌, ◌∷◌, ◌++◌, if◌then◌else◌}
use Rattle.row_machine.specs.Words.{ℕ, Bool, true, false, List, [], map, length, Option, Some, None, codes, option_map}
use Rattle.row_machine.specs.Words.{option_map_or, option_to_list, ObjectKind, Row, Target, Origin, Body, Command, What}
use Rattle.row_machine.specs.Words.{ObjectKind as kind, Row as row, Origin as origin, What as what, Project, Profile}
use Rattle.row_machine.specs.Words.{Instance, Snapshot, RowChange, RowChange as change}
use Rattle.row_machine.specs.Estate.{Task, State, default_name, project_named, profile_named, network_named, pool_named}
use Rattle.row_machine.specs.Estate.{volume_named, instance_named, snapshot_named, home_of, is_on}
use Rattle.row_machine.specs.Readings.{removal, rows_put, with_name}
use Rattle.row_machine.specs.machine.NameRules.{volume_source}
use Rattle.row_machine.specs.machine.Tasks.{creation_task, copy, volume_copy, snapshot_creation, update_task}
use Rattle.row_machine.specs.machine.Tasks.{restore_task, rename_task}
use Rattle.row_machine.specs.machine.Tasks.{deletion_task, snapshot_deletion, act_task}
use Rattle.row_machine.specs.machine.NewRows as new

pub data Plan : Type 0 where
  nothing : Plan
  changes : List RowChange → Plan
  starts : Task → Plan

abbrev pub if_there : {X : Type 0} → (X → Plan) → Option X → Plan
if_there plan None = nothing
if_there plan (Some item) = plan item

abbrev pub put_all : List Row → List RowChange
put_all rows = map change.Put rows

abbrev pub moved_row : Row → Row → List RowChange
moved_row old new = removal old ∷ change.Put new ∷ []

-- a new project, and its profile `default` where it has profiles of its own
abbrev pub project_creation : Project → List RowChange
project_creation project =
    if is_on project.config (codes "features.profiles")
    then put_all (row.Project project ∷ row.Profile (new.default_profile project.name) ∷ [])
    else put_all (row.Project project ∷ [])

-- where its profiles are turned off its profile `default` goes, where they are turned on there is one
abbrev pub project_change : Project → Project → List RowChange
project_change old made =
    change.Put (row.Project made) ∷ by_profiles (has_profiles old) (has_profiles made) where
      has_profiles : Project → Bool
      has_profiles project = is_on project.config (codes "features.profiles")

      by_profiles : Bool → Bool → List RowChange
      by_profiles true false = removal (row.Profile (new.default_profile made.name)) ∷ []
      by_profiles false true = change.Put (row.Profile (new.default_profile made.name)) ∷ []
      by_profiles was is_so = []

abbrev pub own_profile : State → Project → Option Profile
own_profile state project = profile_named state.profiles project.name default_name

abbrev pub project_rename : State → List ℕ → Project → List RowChange
project_rename state to project =
    moved_row (row.Project project) (row.Project (record project { name = to }))
    ++ option_map_or (λ profile. moved_row (row.Profile profile) (row.Profile (record profile { project = to })))
    (own_profile state project) []

abbrev pub project_deletion : State → Project → List RowChange
project_deletion state project =
    map removal (row.Project project ∷ map row.Profile (option_to_list (own_profile state project)))

abbrev pub instance_target : List ℕ → Target
instance_target name = record { kind = kind.Instance; pool = []; instance = []; name = name }

abbrev pub snapshot_target : List ℕ → List ℕ → Target
snapshot_target instance name = record { kind = kind.Snapshot; pool = []; instance = instance; name = name }

abbrev pub copy_from : State → List ℕ → Target → Body → ℕ → List ℕ → List ℕ → Plan
copy_from state project of body moment from snapshot =
    if_there by_instance (instance_named state.instances project from) where
      by_snapshot : Instance → Snapshot → Plan
      by_snapshot instance source =
          starts (copy project of body moment (snapshot_target from snapshot) (new.source_snapshot instance source))

      by_instance : Instance → Plan
      by_instance instance =
          if length snapshot == 0
          then starts (copy project of body moment (instance_target from) (new.source_instance instance))
          else if_there (by_snapshot instance) (snapshot_named state.snapshots project from snapshot)

-- a new instance: a copy, or from nothing or an image
abbrev pub instance_creation : State → List ℕ → Target → Body → ℕ → Origin → Plan
instance_creation state project of body moment (origin.Copy from snapshot pool) =
    copy_from state project of body moment from snapshot
instance_creation state project of body moment other = starts (creation_task project of body moment)

-- a new volume: a copy in the background, or at once
abbrev pub volume_creation : State → List ℕ → Target → Body → ℕ → Origin → Plan
volume_creation state home of body moment (origin.Copy from snapshot pool) =
    if_there (λ volume. starts (volume_copy home of body moment source volume))
    (volume_named state.volumes home source.pool source.name) where
      source : Target
      source = volume_source of from pool
volume_creation state home of body moment other =
    changes (put_all (row.Volume (new.made_volume home of body moment) ∷ []))

abbrev pub plan_create : State → List ℕ → Target → Body → ℕ → Plan
plan_create state project of body moment = plan of.kind where
  home : ObjectKind → List ℕ
  home kind = home_of state.projects project kind

  plan : ObjectKind → Plan
  plan kind.Project = changes (project_creation (new.made_project of.name body))
  plan kind.Profile = changes (put_all (row.Profile (new.made_profile (home kind.Profile) of.name body) ∷ []))
  plan kind.Network = changes (put_all (row.Network (new.made_network (home kind.Network) of.name body) ∷ []))
  plan kind.Pool = changes (put_all (row.Pool (new.made_pool of.name body) ∷ []))
  plan kind.Volume = volume_creation state (home kind.Volume) of body moment body.origin
  plan kind.Instance = instance_creation state project of body moment body.origin
  plan kind.Snapshot =
      if_there (λ instance. starts (snapshot_creation project (with_name state project of) moment instance))
      (instance_named state.instances project of.instance)
  plan kind.Operation = nothing

-- the row that the object of a path is, in its home
abbrev pub row_of : State → List ℕ → Target → Option Row
row_of state project of = found of.kind where
  found : ObjectKind → Option Row
  found kind.Project = option_map row.Project (project_named state.projects of.name)
  found kind.Profile =
      option_map row.Profile (profile_named state.profiles (home_of state.projects project kind.Profile) of.name)
  found kind.Network =
      option_map row.Network (network_named state.networks (home_of state.projects project kind.Network) of.name)
  found kind.Pool = option_map row.Pool (pool_named state.pools of.name)
  found kind.Volume =
      option_map row.Volume (volume_named state.volumes (home_of state.projects project kind.Volume) of.pool of.name)
  found kind.Instance = option_map row.Instance (instance_named state.instances project of.name)
  found kind.Snapshot = option_map row.Snapshot (snapshot_named state.snapshots project of.instance of.name)
  found kind.Operation = None

-- PUT: of an instance a background operation, of other objects at once
abbrev pub plan_put : State → List ℕ → Target → Body → Row → Plan
plan_put state project of body (row.Project old) = changes (project_change old (new.put_project old body))
plan_put state project of body (row.Profile profile) =
    changes (put_all (row.Profile (new.put_profile profile body) ∷ []))
plan_put state project of body (row.Network network) =
    changes (put_all (row.Network (new.put_network network body) ∷ []))
plan_put state project of body (row.Pool pool) = changes (put_all (row.Pool (new.put_pool pool body) ∷ []))
plan_put state project of body (row.Volume volume) = changes (put_all (row.Volume (new.put_volume volume body) ∷ []))
plan_put state project of body (row.Instance instance) =
    starts (update_task state project of (new.put_instance instance body))
plan_put state project of body (row.Snapshot snapshot) = nothing

-- PATCH: at once, of an instance too
abbrev pub plan_patch : Body → Row → Plan
plan_patch body (row.Project project) = changes (project_change project (new.patched_project project body))
plan_patch body (row.Profile profile) = changes (put_all (row.Profile (new.patched_profile profile body) ∷ []))
plan_patch body (row.Network network) = changes (put_all (row.Network (new.patched_network network body) ∷ []))
plan_patch body (row.Pool pool) = changes (put_all (row.Pool (new.patched_pool pool body) ∷ []))
plan_patch body (row.Volume volume) = changes (put_all (row.Volume (new.patched_volume volume body) ∷ []))
plan_patch body (row.Instance instance) = changes (put_all (row.Instance (new.patched_instance instance body) ∷ []))
plan_patch body (row.Snapshot snapshot) = nothing

-- a rename: of an instance a background operation
abbrev pub plan_move : State → List ℕ → Target → List ℕ → Row → Plan
plan_move state project of to (row.Project old) = changes (project_rename state to old)
plan_move state project of to (row.Profile profile) =
    changes (moved_row (row.Profile profile) (row.Profile (record profile { name = to })))
plan_move state project of to (row.Network network) =
    changes (moved_row (row.Network network) (row.Network (record network { name = to })))
plan_move state project of to (row.Pool pool) = nothing
plan_move state project of to (row.Volume volume) =
    changes (moved_row (row.Volume volume) (row.Volume (record volume { name = to })))
plan_move state project of to (row.Instance instance) = starts (rename_task project of to instance)
plan_move state project of to (row.Snapshot snapshot) = nothing

-- DELETE: of an instance or a snapshot a background operation
abbrev pub plan_delete : State → List ℕ → Target → Row → Plan
plan_delete state project of (row.Project old) = changes (project_deletion state old)
plan_delete state project of (row.Instance instance) = starts (deletion_task project of)
plan_delete state project of (row.Snapshot snapshot) = starts (snapshot_deletion project of)
plan_delete state project of other = changes (removal other ∷ [])

abbrev pub plan_restore : State → List ℕ → Target → List ℕ → Instance → Plan
plan_restore state project of snapshot instance =
    if_there (λ found. starts (restore_task project of instance found))
    (snapshot_named state.snapshots project of.name snapshot)

-- What a command makes of the state, where no rule is broken. Reads, cancels and waits change no row and begin nothing.
unfoldable pub plan_of : State → Command → ℕ → Plan
plan_of state command moment = plan command.what where
  plan : What → Plan
  plan (what.Create of body) = plan_create state command.project of body moment
  plan (what.Put of body) = if_there (plan_put state command.project of body) (row_of state command.project of)
  plan (what.Patch of body) = if_there (plan_patch body) (row_of state command.project of)
  plan (what.Move of to) = if_there (plan_move state command.project of to) (row_of state command.project of)
  plan (what.Delete of) = if_there (plan_delete state command.project of) (row_of state command.project of)
  plan (what.Act of action) =
      if_there (λ instance. starts (act_task state command.project of action instance))
      (instance_named state.instances command.project of.name)
  plan (what.Restore of snapshot) =
      if_there (plan_restore state command.project of snapshot) (instance_named state.instances command.project of.name)
  plan other = nothing

-- the rows that a plan puts, now or at its success
abbrev pub rows_of_plan : Plan → List Row
rows_of_plan nothing = []
rows_of_plan (changes row_changes) = rows_put row_changes
rows_of_plan (starts task) = option_to_list task.claim
