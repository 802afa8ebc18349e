-- What is true of the state at all times: ten facts, each kept by every step.
use Rattle.std.specs.Prelude.{◌≡◌, ◌≢◌, ℕ, ◌+◌, ◌<◌, ◌≤◌, ◌^◌, true, List, [], ◌∷◌, ◌++◌, map, length, Option, Some}
use Rattle.std.specs.Prelude.{None, is_some, IfSome, if◌then◌else◌, codes, filter, drop, option_map}
use Rattle.std.specs.List.{sum_by}
use Rattle.row_machine.specs.Words.{Each, Distinct, part, Part, Deed, ObjectKind, calls_of, undo_of, name_of, limit_on}
use Rattle.row_machine.specs.Words.{limits_of, Status, AreKept, are_profiles, Target, Notice, Row, HasGoodKey}
use Rattle.row_machine.specs.Words.{HasMoments, pool_limit}
use Rattle.row_machine.specs.Words.deed
use Rattle.row_machine.specs.Words.kind
use Rattle.row_machine.specs.Words.status
use Rattle.row_machine.specs.machine.Deeds.{keeps_name, has_target, claim_kind, replaces_target, target_kind}
use Rattle.row_machine.specs.machine.Deeds.{has_source}
use Rattle.operations.specs.declared.operation.Operation.{Operation}
use Rattle.records.specs.declared.rows.Project.{Project}
use Rattle.records.specs.declared.rows.Instance.{Instance}
use Rattle.row_machine.specs.machine.Task.{Task}
use Rattle.reservations.specs.declared.books.Hold.{Hold}
use Rattle.row_machine.specs.machine.State.{State}
use Rattle.row_machine.specs.machine.Rows.{default_name, project_named, profile_named, pool_named, instance_named}
use Rattle.row_machine.specs.machine.Rows.{texts_before, project_names, profile_names, network_names, pool_names}
use Rattle.row_machine.specs.machine.Rows.{volume_names, instance_names, snapshot_names, power_names}
use Rattle.row_machine.specs.machine.Homes.{is_on}
use Rattle.row_machine.specs.machine.Expansions.{expanded_of}
use Rattle.row_machine.specs.machine.Claims.{of_live, claimed_instance, claimed_volume, claimed_snapshot}
use Rattle.row_machine.specs.machine.Claims.{judged_instances, judged_volumes, part_of_share, share_of, project_of_row}
use Rattle.row_machine.specs.machine.Claims.{replaced_instance}
use Rattle.row_machine.specs.machine.Usage.{used, used_on, networks_of}
use Rattle.row_machine.specs.shown.Urls.{target_of}
use Rattle.row_machine.specs.machine.Holders.{keeps_busy}
use Rattle.row_machine.specs.machine.NameRules.{is_there}
use Rattle.row_machine.specs.machine.SettingRules.{root_missing, profile_missing, devices_miss}
use Rattle.row_machine.specs.machine.PolicyRules.{forbids_profile, forbids_instance}
use Rattle.row_machine.specs.machine.LimitRules.{instance_without_amount, volume_lacks_amount}
use Rattle.row_machine.specs.machine.TableRules.{count_of, row_kinds, size_of, largest_row}
use Rattle.row_machine.specs.machine.Kinds.{cap_of}
use Rattle.row_machine.specs.opening.Records.{rows_of}
use Rattle.row_machine.specs.machine.Operations.{project_of_task}
use Rattle.row_machine.specs.shown.Notices.{kept_notices}
use Rattle.row_machine.specs.opening.Opening.{has_all_features, settings_invalid, devices_invalid, home_missing}

-- ---- words

-- the rows that live operations would put
abbrev pub claims_of : State → List Row
claims_of state = of_live (λ task. task.claim) state

-- rows rise by their names, so that none comes twice
abbrev pub Rise : {X : Type 0} → (X → List (List ℕ)) → List X → Type 0
Rise names [] = Unit {0}
Rise names (item ∷ rest) = Each (λ other. texts_before (names item) (names other) ≡ true) rest × Rise names rest

-- the instance under a new name that an operation claims
abbrev pub new_instance : Task → Option Instance
new_instance task = if keeps_name task.deed then None else claimed_instance task

-- ---- 1: names

-- Names are good and moments lie before the year 10000, of rows and of claimed rows. Rows rise by their names, and no
-- claimed new name is a row's or another claim's.
pub record AreNamed (state : State) : Type 0 where
  pub good : Each HasGoodKey (rows_of state ++ claims_of state)
  pub moments : Each HasMoments (rows_of state ++ claims_of state)
  pub projects : Rise project_names state.projects
  pub profiles : Rise profile_names state.profiles
  pub networks : Rise network_names state.networks
  pub pools : Rise pool_names state.pools
  pub volumes : Rise volume_names state.volumes
  pub instances : Rise instance_names state.instances
  pub snapshots : Rise snapshot_names state.snapshots
  pub powers : map power_names state.powers ≡ map instance_names state.instances
  pub new_volumes : Distinct volume_names (state.volumes ++ of_live claimed_volume state)
  pub new_instances : Distinct instance_names (state.instances ++ of_live new_instance state)
  pub new_snapshots : Distinct snapshot_names (state.snapshots ++ of_live claimed_snapshot state)

-- ---- 2: what is named exists

-- an instance's profiles, at most 64 and each once, and all that its devices name
pub record HasReferences (state : State) (instance : Instance) : Type 0 where
  pub few : are_profiles instance.profiles ≡ true
  pub profiles : profile_missing state instance ≡ None
  pub devices : devices_miss state instance.project (expanded_of state.projects state.profiles instance).devices ≡ None

-- the instance of a target is there: itself, or that of a snapshot; no other kind has an instance
abbrev pub instance_there : State → List ℕ → Target → Type 0
instance_there state project of = there of.kind where
  there : ObjectKind → Type 0
  there kind.Instance = is_some (instance_named state.instances project of.name) ≡ true
  there kind.Snapshot = is_some (instance_named state.instances project of.instance) ≡ true
  there other = ⊥

-- a rename claims its target's row under another name
abbrev pub IsRenamed : State → Task → Type 0
IsRenamed state task = renamed task.deed where
  renamed : Deed → Type 0
  renamed deed.Rename =
      option_map (λ (instance : Instance). record instance { name = task.target.name }) (claimed_instance task)
      ≡ replaced_instance state task
  renamed other = Unit {0}

-- a live operation: its project, its target, the source of a copy, and what its claimed row stands in
pub record IsPlaced (state : State) (task : Task) : Type 0 where
  pub project : is_some (project_named state.projects task.project) ≡ true
  pub target : has_target task.deed ≡ true → instance_there state task.project task.target
  pub source : (of : Target) → task.source ≡ Some of → is_there state task.project of ≡ true
  pub claim_project : (row : Row) → task.claim ≡ Some row → project_of_row row ≡ task.project
  pub claim_home : (row : Row) → task.claim ≡ Some row → home_missing state row ≡ None
  pub pool : (row : Row) → task.claim ≡ Some row → (target_of row).kind ≡ kind.Volume
      → is_some (pool_named state.pools (target_of row).pool) ≡ true
  pub instance : (row : Row) → task.claim ≡ Some row → (target_of row).kind ≡ kind.Snapshot
      → instance_there state task.project (target_of row)
  pub renamed : IsRenamed state task

-- all that rows, claims and operations name exists
pub record ReferencesExist (state : State) : Type 0 where
  pub homes : Each (λ row. home_missing state row ≡ None) (rows_of state)
  pub volumes : Each (λ volume. is_some (pool_named state.pools volume.pool) ≡ true) state.volumes
  pub snapshots : Each (λ snapshot. is_some (instance_named state.instances snapshot.project snapshot.instance) ≡ true)
      state.snapshots
  pub snapshot_profiles : Each (λ snapshot. are_profiles snapshot.profiles ≡ true)
      (state.snapshots ++ of_live claimed_snapshot state)
  pub profiles : Each (λ profile. devices_miss state profile.project profile.devices ≡ None) state.profiles
  pub instances : Each (HasReferences state) (judged_instances state)
  pub operations : Each (λ operation. IsPlaced state operation.work) state.operations.live

-- ---- 3: defaults

-- the project `default` has all features, and each project with profiles of its own has a profile `default`
pub record HasDefaults (state : State) : Type 0 where
  pub project : option_map has_all_features (project_named state.projects default_name) ≡ Some true
  pub profiles : Each (λ owner. is_on owner.config (codes "features.profiles") ≡ true
      → is_some (profile_named state.profiles owner.name default_name) ≡ true) state.projects

-- ---- 4: settings

-- the tables accept each row but snapshots, and each claimed row; each instance has exactly one root disk
pub record AreSettled (state : State) : Type 0 where
  pub settings : Each (λ row. settings_invalid state row ≡ None) (rows_of state ++ claims_of state)
  pub devices : Each (λ row. devices_invalid state row ≡ None) (rows_of state ++ claims_of state)
  pub roots : Each (λ instance. root_missing state instance ≡ None) (judged_instances state)

-- ---- 5: operations

-- the object that an operation is about, its source and what it claims, by its deed
pub record IsByDeed (task : Task) : Type 0 where
  pub target : task.target.kind ≡ target_kind task.deed
  pub source : has_source task.deed task.source ≡ true
  pub kind : option_map (λ row. (target_of row).kind) task.claim ≡ claim_kind task.deed
  pub named : task.deed ≢ deed.Rename → IfSome task.claim (λ row. target_of row ≡ task.target)
  pub replaces : task.replaces ≡ (if replaces_target task.deed then Some (task.project, task.target.name) else None)

-- an instance is kept busy by at most one live operation
abbrev pub IsBusyOnce : State → Type 0
IsBusyOnce state =
    (project instance : List ℕ)
    → length (filter (λ operation. keeps_busy project instance operation.work) state.operations.live) ≤ 1

-- operations are numbered, few, and are about, copy from and claim what their deeds do
pub record AreOperations (state : State) : Type 0 where
  pub kept : AreKept state.operations
  pub busy : IsBusyOnce state
  pub deeds : Each (λ operation. IsByDeed operation.work) state.operations.live

-- ---- 6: what is under way

-- how many calls are out
abbrev pub calls_out : Status → ℕ
calls_out status.Running = 1
calls_out status.Cancelling = 1
calls_out other = 0

-- an operation with the calls that are done, out and left, and the call that takes its deed back
pub record IsUnderWay (operation : Operation Task) : Type 0 where
  pub calls : operation.work.done + calls_out operation.status + length operation.work.calls
      ≡ length (calls_of operation.work.deed)
  pub left : map name_of operation.work.calls
      ≡ drop (operation.work.done + calls_out operation.status) (calls_of operation.work.deed)
  pub waiting : operation.status ≡ status.Pending → operation.work.done ≡ 0
  pub cancellable : operation.may_cancel ≡ is_some (undo_of operation.work.deed)
  pub undo : operation.status ≢ status.Cancelling → option_map name_of operation.work.undo ≡ undo_of operation.work.deed
  pub cancelling : operation.status ≡ status.Cancelling → operation.may_cancel ≡ true
  pub undoing : IfSome operation.work.undo (λ call. Some (name_of call) ≡ undo_of operation.work.deed)

-- ---- 7: shares

-- the share of an operation by the rows as they stand, and its part on a pool
abbrev pub held_by : State → Operation Task → Hold
held_by state operation = record {
  op = operation.number;
  project = project_of_task operation.work;
  share = share_of state operation.work;
  part = part_of_share state operation.work;
}

-- ---- 8: limits and policy

-- each limit of a project that is set, on pools too, is at least what is used of it, and all that counts for it is
-- countable
pub record IsWithin (state : State) (project : Project) : Type 0 where
  pub parts : (part : Part)
      → IfSome (limit_on part (limits_of project.config)) (λ limit. used state project.name part ≤ limit)
  pub networks : IfSome (limits_of project.config).networks (λ limit. networks_of state project.name ≤ limit)
  pub pools : (pool : List ℕ) → IfSome (pool_limit project.config pool) (λ limit. used_on state project.name pool ≤ limit)
  pub instances : Each
      (λ instance. instance.project ≡ project.name → instance_without_amount state project instance ≡ None)
      (judged_instances state)
  pub volumes : Each (λ volume. volume.project ≡ project.name → volume_lacks_amount project volume ≡ None)
      (judged_volumes state)

-- a restricted project forbids nothing that its profiles and instances have
pub record IsClean (state : State) (project : Project) : Type 0 where
  pub profiles : Each
      (λ profile. profile.project ≡ project.name → (number : ℕ) → forbids_profile project number profile ≡ None)
      state.profiles
  pub instances : Each
      (λ instance. instance.project ≡ project.name → (number : ℕ)
      → forbids_instance state project number instance ≡ None)
      (judged_instances state)

-- each project stands within its limits and its policy
pub record AreWithin (state : State) : Type 0 where
  pub limits : Each (IsWithin state) state.projects
  pub policy : Each (IsClean state) state.projects

-- ---- 9: books

-- what was granted was converted or returned or is still held, and so was what of it is on pools
pub record AreBalanced (state : State) : Type 0 where
  pub parts : (a_part : Part)
      → part a_part state.books.granted
      ≡ part a_part state.books.converted + part a_part state.books.returned
      + sum_by (λ hold. part a_part hold.share) state.held
  pub pools : state.books.pool_granted
      ≡ state.books.pool_converted + state.books.pool_returned + sum_by (λ hold. hold.part.disk) state.held

-- ---- 10: sizes, and the numbers of notices

-- the numbers of the kept notices rise by one, up to the next number
abbrev pub AreCounted : ℕ → List Notice → Type 0
AreCounted next [] = Unit {0}
AreCounted next (notice ∷ notices) = (notice.number + length notices + 1 ≡ next) × AreCounted next notices

-- no table is full, no row is too large, and notices are numbered
pub record AreFew (state : State) : Type 0 where
  pub tables : Each (λ kind. count_of state kind ≤ cap_of kind) row_kinds
  pub rows : Each (λ row. size_of row ≤ largest_row) (rows_of state ++ claims_of state)
  pub notices : AreCounted state.next_notice state.notices
  pub few_notices : length state.notices ≤ kept_notices
  pub from_one : 1 ≤ state.next_notice
  pub last_number : state.next_notice < 2 ^ 64

-- ---- all of them

-- What is true of the state at all times: names are good and distinct; what is named exists; the defaults are there;
-- the tables accept all settings; operations are numbered, few, by their deeds, and keep their instances to themselves;
-- the calls of each are in order; each holds the share that its claim needs; each project stands within its limits and
-- its policy; the books balance; and nothing is too large.
pub record IsWhole (state : State) : Type 0 where
  pub names : AreNamed state
  pub references : ReferencesExist state
  pub defaults : HasDefaults state
  pub settings : AreSettled state
  pub operations : AreOperations state
  pub under_way : Each IsUnderWay state.operations.live
  pub shares : state.held ≡ map (held_by state) state.operations.live
  pub limits : AreWithin state
  pub books : AreBalanced state
  pub sizes : AreFew state
