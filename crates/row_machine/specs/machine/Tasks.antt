-- The background operations that commands begin: what each is about, claims and asks of the host.
use Rattle.std.specs.Prelude.{◌∷◌, if◌then◌else◌}
use Rattle.row_machine.specs.Words.{ℕ, Bool, true, false, List, [], Some, None, Action, Deed, ObjectKind, Place}
use Rattle.row_machine.specs.Words.{HostCall, Target, Body, Deed as deed, ObjectKind as kind, Row as row}
use Rattle.row_machine.specs.Words.{HostCall as call, Volume, Instance, Snapshot}
use Rattle.row_machine.specs.Estate.{Task, State, expanded_of}
use Rattle.row_machine.specs.machine.HostCalls.{place_of, volume_place, spec_of, create_calls, copy_calls, act_calls}
use Rattle.row_machine.specs.machine.NewRows as new

-- an operation that claims nothing
abbrev pub plain_task : Deed → List ℕ → Target → List HostCall → Task
plain_task does project of calls = record {
  deed = does;
  project = project;
  target = of;
  claim = None;
  replaces = None;
  source = None;
  calls = calls;
  undo = None;
  done = 0;
}

-- an instance is made, from nothing or from an image
abbrev pub creation_task : List ℕ → Target → Body → ℕ → Task
creation_task project of body moment = record (plain_task deed.Create project of []) {
  calls = create_calls at (new.image_of body.origin);
  claim = Some (row.Instance (new.made_instance project of.name body moment));
  undo = Some (call.Clear at);
} where
  at : Place
  at = place_of project of.name

-- a copy of an instance, or of its snapshot, in the same project
abbrev pub copy : List ℕ → Target → Body → ℕ → Target → new.Source → Task
copy project of body moment from source = record (plain_task deed.Copy project of []) {
  calls = copy_calls (place_of project instance) snapshot at;
  claim = Some (row.Instance (new.copied_instance project of.name body moment source));
  source = Some from;
  undo = Some (call.Clear at);
} where
  at : Place
  at = place_of project of.name

  is_snapshot : ObjectKind → Bool
  is_snapshot kind.Snapshot = true
  is_snapshot other = false

  instance : List ℕ
  instance = if is_snapshot from.kind then from.instance else from.name

  snapshot : List ℕ
  snapshot = if is_snapshot from.kind then from.name else []

-- a volume is copied
abbrev pub volume_copy : List ℕ → Target → Body → ℕ → Target → Volume → Task
volume_copy home of body moment from source = record (plain_task deed.CopyVolume home of []) {
  calls = copy_calls (volume_place home from.pool from.name) [] at;
  claim = Some (row.Volume (new.copied_volume home of body moment source));
  source = Some from;
  undo = Some (call.Clear at);
} where
  at : Place
  at = volume_place home of.pool of.name

-- a snapshot is made of an instance
abbrev pub snapshot_creation : List ℕ → Target → ℕ → Instance → Task
snapshot_creation project of moment instance = record (plain_task deed.Snap project of (call.Snap at of.name ∷ [])) {
  claim = Some (row.Snapshot (new.made_snapshot instance of.name moment));
  undo = Some (call.Unsnap at of.name);
} where
  at : Place
  at = place_of project of.instance

-- the instance as it stands is replaced by the claimed row
abbrev pub replacing_task : Deed → List ℕ → Target → Instance → List HostCall → Task
replacing_task does project of instance calls = record (plain_task does project of calls) {
  claim = Some (row.Instance instance);
  replaces = Some (project, of.name);
}

-- the host is told what the changed instance has
abbrev pub update_task : State → List ℕ → Target → Instance → Task
update_task state project of instance =
    replacing_task deed.Update project of instance
    (call.Apply (place_of project of.name) (spec_of (expanded_of state.projects state.profiles instance)) ∷ [])

-- an instance is taken back to its snapshot
abbrev pub restore_task : List ℕ → Target → Instance → Snapshot → Task
restore_task project of instance snapshot =
    replacing_task deed.Restore project of (new.restored_instance instance snapshot)
    (call.Restore (place_of project of.name) snapshot.name ∷ [])

-- an instance gets another name
abbrev pub rename_task : List ℕ → Target → List ℕ → Instance → Task
rename_task project of to instance =
    replacing_task deed.Rename project of (record instance { name = to })
    (call.Rename (place_of project of.name) (place_of project to) ∷ [])

-- an instance is deleted
abbrev pub deletion_task : List ℕ → Target → Task
deletion_task project of = plain_task deed.Delete project of (call.Clear (place_of project of.name) ∷ [])

-- a snapshot is deleted
abbrev pub snapshot_deletion : List ℕ → Target → Task
snapshot_deletion project of =
    plain_task deed.Unsnap project of (call.Unsnap (place_of project of.instance) of.name ∷ [])

-- the state of an instance is changed
abbrev pub act_task : State → List ℕ → Target → Action → Instance → Task
act_task state project of action instance =
    plain_task (deed.Act action instance.ephemeral) project of
    (act_calls action instance.ephemeral (place_of project of.name)
    (spec_of (expanded_of state.projects state.profiles instance)))
