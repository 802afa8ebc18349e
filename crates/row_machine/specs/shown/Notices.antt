-- Notices: what each change and each operation tells.
use Rattle.std.specs.Prelude.{ℕ, ◌+◌, ◌-◌, ◌^◌, ◌==◌, Bool, true, ◌&&◌, nat_lt, nat_le, List, [], ◌∷◌, map, filter}
use Rattle.std.specs.Prelude.{Option, Some, None, if◌then◌else◌, option_map}
use Rattle.std.specs.Option.{option_map_or, option_to_list}
use Rattle.std.specs.Str.{bytes_eq}
use Rattle.row_machine.specs.Words.{ring_push, Action, Deed, ObjectKind, kept_at, Notice, Filter, Life, EventBody}
use Rattle.row_machine.specs.Words.{Untold, OpView, Target, Command, What}
use Rattle.row_machine.specs.Words.action
use Rattle.row_machine.specs.Words.deed
use Rattle.row_machine.specs.Words.kind
use Rattle.row_machine.specs.Words.life
use Rattle.row_machine.specs.Words.what
use Rattle.operations.specs.declared.operation.Operation.{Operation}
use Rattle.records.specs.declared.notices.EventBody.TheVariants as event_body
use Rattle.row_machine.specs.declared.events.Fetched.{Fetched}
use Rattle.row_machine.specs.declared.events.Fetched.TheVariants.{Notices, Lagged}
use Rattle.row_machine.specs.machine.Task.{Task}
use Rattle.row_machine.specs.machine.State.{State}
use Rattle.row_machine.specs.machine.Rows.{default_name}
use Rattle.row_machine.specs.machine.Homes.{home_of}
use Rattle.row_machine.specs.shown.Urls.{url_of, target_of}

-- ---- keeping them

-- the last notices that are kept
abbrev pub kept_notices : ℕ
kept_notices = 1024

-- a notice gets the next number; where the numbers have come to their end it is dropped
abbrev pub push_notice : Untold → State → State
push_notice notice state =
    if state.next_notice == 2 ^ 64 - 1 then state
    else record state {
      notices = ring_push kept_notices
          (record { number = state.next_notice; moment = notice.moment; project = notice.project; body = notice.body })
          state.notices;
      next_notice = state.next_notice + 1;
    }

-- several notices, in their order
abbrev pub telling : List Untold → State → State
telling [] state = state
telling (notice ∷ notices) state = telling notices (push_notice notice state)

-- ---- what they tell

-- the project that an object's notice has: that which it belongs to, and `default` for pools and projects
abbrev pub project_told : List ℕ → ObjectKind → List ℕ
project_told project kind.Project = default_name
project_told project kind.Pool = default_name
project_told project other = project

-- an action on an object that belongs to a project
abbrev pub life_notice : ℕ → List ℕ → Target → Life → Untold
life_notice moment project of action = record {
  moment = moment;
  project = project_told project of.kind;
  body = event_body.Life action (url_of project of);
}

-- how an operation is shown
abbrev pub view_of : Operation Task → OpView
view_of operation = record {
  number = operation.number;
  status = operation.status;
  may_cancel = operation.may_cancel;
  created = operation.created;
  updated = operation.updated;
  fault = operation.fault;
  project = operation.work.project;
  target = operation.work.target;
}

-- an operation as it now stands
abbrev pub operation_notice : State → ℕ → ℕ → List Untold
operation_notice state number moment =
    option_to_list
    (option_map
    (λ operation.
    record { moment = moment; project = operation.work.project; body = event_body.Op (view_of operation) })
    (kept_at state.operations number))

-- ---- changes at once

-- what a creation tells
abbrev pub made_life : ObjectKind → Option Life
made_life kind.Project = Some life.ProjectCreated
made_life kind.Profile = Some life.ProfileCreated
made_life kind.Network = Some life.NetworkCreated
made_life kind.Pool = Some life.PoolCreated
made_life kind.Volume = Some life.VolumeCreated
made_life other = None

-- what a PUT or a PATCH tells
abbrev pub changed_life : ObjectKind → Option Life
changed_life kind.Project = Some life.ProjectUpdated
changed_life kind.Profile = Some life.ProfileUpdated
changed_life kind.Network = Some life.NetworkUpdated
changed_life kind.Pool = Some life.PoolUpdated
changed_life kind.Volume = Some life.VolumeUpdated
changed_life kind.Instance = Some life.InstanceUpdated
changed_life other = None

-- what a rename tells
abbrev pub moved_life : ObjectKind → Option Life
moved_life kind.Project = Some life.ProjectRenamed
moved_life kind.Profile = Some life.ProfileRenamed
moved_life kind.Network = Some life.NetworkRenamed
moved_life kind.Volume = Some life.VolumeRenamed
moved_life other = None

-- what a deletion tells
abbrev pub deleted_life : ObjectKind → Option Life
deleted_life kind.Project = Some life.ProjectDeleted
deleted_life kind.Profile = Some life.ProfileDeleted
deleted_life kind.Network = Some life.NetworkDeleted
deleted_life kind.Pool = Some life.PoolDeleted
deleted_life kind.Volume = Some life.VolumeDeleted
deleted_life other = None

-- what a command that changes rows at once tells, after a rename with the new name
abbrev pub change_notices : State → Command → ℕ → List Untold
change_notices state command moment = notices command.what where
  on : Target → Option Life → List Untold
  on of action =
      option_to_list (option_map (life_notice moment (home_of state.projects command.project of.kind) of) action)

  notices : What → List Untold
  notices (what.Create of body) = on of (made_life of.kind)
  notices (what.Put of body) = on of (changed_life of.kind)
  notices (what.Patch of body) = on of (changed_life of.kind)
  notices (what.Move of to) = on (record of { name = to }) (moved_life of.kind)
  notices (what.Delete of) = on of (deleted_life of.kind)
  notices other = []

-- ---- operations that succeed

-- what a change of state tells
abbrev pub action_life : Action → Life
action_life action.Start = life.InstanceStarted
action_life action.Stop = life.InstanceStopped
action_life action.Restart = life.InstanceRestarted
action_life action.Freeze = life.InstancePaused
action_life action.Unfreeze = life.InstanceResumed

-- an ephemeral instance that stops is deleted
abbrev pub act_lives : Action → Bool → List Life
act_lives action.Stop true = life.InstanceStopped ∷ life.InstanceDeleted ∷ []
act_lives does ephemeral = action_life does ∷ []

-- what a deed tells when it succeeds
abbrev pub deed_lives : Deed → List Life
deed_lives deed.Create = life.InstanceCreated ∷ []
deed_lives deed.Copy = life.InstanceCreated ∷ []
deed_lives deed.Update = life.InstanceUpdated ∷ []
deed_lives deed.Restore = life.InstanceRestored ∷ []
deed_lives deed.Rename = life.InstanceRenamed ∷ []
deed_lives deed.Delete = life.InstanceDeleted ∷ []
deed_lives (deed.Act does ephemeral) = act_lives does ephemeral
deed_lives deed.Snap = life.SnapshotCreated ∷ []
deed_lives deed.Unsnap = life.SnapshotDeleted ∷ []
deed_lives deed.CopyVolume = life.VolumeCreated ∷ []

-- what an operation's success tells of: after a rename the claimed row, else the target
abbrev pub object_told : Task → Target
object_told task = told_of task.deed where
  told_of : Deed → Target
  told_of deed.Rename = option_map_or target_of task.claim task.target
  told_of other = task.target

-- the notices of an operation that succeeds
abbrev pub success_notices : Task → ℕ → List Untold
success_notices task moment = map (life_notice moment task.project (object_told task)) (deed_lives task.deed)

-- ---- listening

-- the type of a notice is one that the listener takes
abbrev pub takes_event : Filter → EventBody → Bool
takes_event filter (event_body.Life action source) = filter.life
takes_event filter (event_body.Op view) = filter.op

-- a listener takes notices of its own project, of the types that it wants
abbrev pub takes : Filter → Notice → Bool
takes filter notice = bytes_eq notice.project filter.project && takes_event filter notice.body

-- the number of the oldest notice that is kept, or the next one where none is
abbrev pub oldest_kept : State → ℕ
oldest_kept state = oldest state.notices where
  oldest : List Notice → ℕ
  oldest [] = state.next_notice
  oldest (notice ∷ notices) = notice.number

-- The notices from a number on that a listener takes, and the next number. Number 0 asks for the next number alone; a
-- number below the oldest kept one has lagged.
unfoldable pub since : State → ℕ → Filter → Fetched
since state cursor filter =
    if cursor == 0 then Notices [] state.next_notice
    else if nat_lt cursor (oldest_kept state) then Lagged cursor (oldest_kept state)
    else Notices (taken state.notices) state.next_notice where
      is_wanted : Notice → Bool
      is_wanted notice = nat_le cursor notice.number && takes filter notice

      taken : List Notice → List Notice
      taken [] = []
      taken (notice ∷ notices) = if is_wanted notice then notice ∷ taken notices else taken notices
