-- Rules on names: N1 to N5.
use Rattle.std.specs.Prelude.{◌==◌, ◌&&◌, ◌∷◌, if◌then◌else◌}
use Rattle.row_machine.specs.Words.{ℕ, Bool, false, List, [], length, find, Option, Some, None, is_some, is_none}
use Rattle.row_machine.specs.Words.{option_and_then, option_map, decimal, option_map_or, bytes_eq, first, ObjectKind}
use Rattle.row_machine.specs.Words.{good_name_of, kept_at, Refusal, Target, Origin, Command, What, ObjectKind as kind}
use Rattle.row_machine.specs.Words.{Rule as rule, Origin as origin, What as what}
use Rattle.row_machine.specs.Estate.{kind_number, is_in_project, Task, State, project_named, profile_named}
use Rattle.row_machine.specs.Estate.{network_named, pool_named, volume_named, instance_named, snapshot_named, home_of}
use Rattle.row_machine.specs.Estate.{on_project, on_object, on_held}
use Rattle.row_machine.specs.Readings.{project_of_row, target_of, object_of}

-- N1: the project is missing, of a command on what belongs to a project.
unfoldable pub project_missing : State → Command → Option Refusal
project_missing state command =
    if option_map_or (λ of. is_in_project of.kind) (object_of command.what) false
    && is_none (project_named state.projects command.project)
    then Some (on_project rule.N1 command.project)
    else None

abbrev pub is_there : State → List ℕ → Target → Bool
is_there state project of = there of.kind where
  there : ObjectKind → Bool
  there kind.Project = is_some (project_named state.projects of.name)
  there kind.Profile = is_some (profile_named state.profiles (home_of state.projects project kind.Profile) of.name)
  there kind.Network = is_some (network_named state.networks (home_of state.projects project kind.Network) of.name)
  there kind.Pool = is_some (pool_named state.pools of.name)
  there kind.Volume = is_some (volume_named state.volumes (home_of state.projects project kind.Volume) of.pool of.name)
  there kind.Instance = is_some (instance_named state.instances project of.name)
  there kind.Snapshot = is_some (snapshot_named state.snapshots project of.instance of.name)
  there kind.Operation = false

abbrev pub missing_unless : Bool → ObjectKind → List ℕ → Option Refusal
missing_unless there kind name = if there then None else Some (on_object rule.N2 kind name)

-- what an object stands in: the pool of a volume, the instance of a snapshot
abbrev pub parent_missing : State → List ℕ → Target → Option Refusal
parent_missing state project of = missing of.kind where
  missing : ObjectKind → Option Refusal
  missing kind.Volume = missing_unless (is_some (pool_named state.pools of.pool)) kind.Pool of.pool
  missing kind.Snapshot =
      missing_unless (is_some (instance_named state.instances project of.instance)) kind.Instance of.instance
  missing other = None

-- the object of a path, after what it stands in
abbrev pub object_missing : State → List ℕ → Target → Option Refusal
object_missing state project of =
    first (parent_missing state project of ∷ missing_unless (is_there state project of) of.kind of.name ∷ [])

-- the volume that a volume is copied from; where a body names no pool, the route fills it in
abbrev pub volume_source : Target → List ℕ → List ℕ → Target
volume_source of from pool = record of { name = from; pool = pool }

abbrev pub snapshot_missing : State → List ℕ → List ℕ → List ℕ → Option Refusal
snapshot_missing state project instance snapshot =
    missing_unless (is_some (snapshot_named state.snapshots project instance snapshot)) kind.Snapshot snapshot

abbrev pub source_missing : State → List ℕ → Target → Origin → Option Refusal
source_missing state project of origin.None = None
source_missing state project of (origin.Image alias) = None
source_missing state project of (origin.Copy from snapshot pool) = missing of.kind where
  missing : ObjectKind → Option Refusal
  missing kind.Volume = object_missing state project (volume_source of from pool)
  missing other = first
      (missing_unless (is_some (instance_named state.instances project from)) kind.Instance from
      ∷ (if length snapshot == 0 then None else snapshot_missing state project from snapshot)
      ∷ [])

-- an operation, which is told by its number in decimal digits
abbrev pub operation_missing : State → ℕ → Option Refusal
operation_missing state number =
    missing_unless (is_some (kept_at state.operations number)) kind.Operation (decimal number)

-- N2: the first object that a command needs and that is missing.
unfoldable pub what_is_missing : State → List ℕ → What → Option Refusal
what_is_missing state project (what.List of recursion) = parent_missing state project of
what_is_missing state project (what.Create of body) =
    first (parent_missing state project of ∷ source_missing state project of body.origin ∷ [])
what_is_missing state project (what.Restore of snapshot) =
    first (object_missing state project of ∷ snapshot_missing state project of.name snapshot ∷ [])
what_is_missing state project (what.GetOp op) = operation_missing state op
what_is_missing state project (what.Cancel op) = operation_missing state op
what_is_missing state project (what.Wait op timeout) = operation_missing state op
what_is_missing state project other = option_and_then (object_missing state project) (object_of other)

-- N3: the new name is malformed.
abbrev pub name_malformed : Target → Option Refusal
name_malformed of = if good_name_of of.kind of.name then None else Some (on_object rule.N3 of.kind of.name)

-- N4: an object has the new name.
abbrev pub name_taken : State → List ℕ → Target → Option Refusal
name_taken state project of = if is_there state project of then Some (on_object rule.N4 of.kind of.name) else None

abbrev pub same_target : Target → Target → Bool
same_target target other =
    kind_number target.kind == kind_number other.kind && bytes_eq target.pool other.pool
    && bytes_eq target.instance other.instance && bytes_eq target.name other.name

abbrev pub claims_object : List ℕ → Target → Task → Bool
claims_object home of task =
    option_map_or (λ new. bytes_eq (project_of_row new) home && same_target (target_of new) of) task.claim false

-- N5: a live operation claims the new name.
abbrev pub name_held : State → List ℕ → Target → Option Refusal
name_held state project of =
    option_map (λ operation. on_held rule.N5 of.kind of.name operation.number)
    (find (λ operation. claims_object (home_of state.projects project of.kind) of operation.work) state.operations.live)

-- what is wrong with a new name
unfoldable pub name_broken : State → List ℕ → Target → Option Refusal
name_broken state project of = first (name_malformed of ∷ name_taken state project of ∷ name_held state project of ∷ [])
