-- What is known of an accepted command: its plan breaks no rule, and which forms the plan can have.
use Rattle.std.specs.Prelude.{◌≡◌, ◌≢◌, ℕ, ◌<◌, Bool, true, false, List, [], ◌∷◌, Some, None, is_some, IfSome}
use Rattle.std.specs.Option.{option_map_or, option_to_list}
use Rattle.plain_lists.specs.Members.{Each}
use Rattle.size_values.specs.Moments.{moment_limit}
use Rattle.size_values.specs.declared.kinds.Action.{Action}
use Rattle.size_values.specs.declared.kinds.Deed.{Deed}
use Rattle.size_values.specs.declared.kinds.Deed.TheVariants as deed
use Rattle.size_values.specs.declared.kinds.ObjectKind.{ObjectKind}
use Rattle.size_values.specs.declared.kinds.ObjectKind.TheVariants as kind
use Rattle.estate_rules.specs.Names.{good_name_of}
use Rattle.instance_states.specs.States.{is_allowed}
use Rattle.records.specs.Forms.{are_profiles}
use Rattle.records.specs.declared.rows.Project.{Project}
use Rattle.records.specs.declared.rows.Profile.{Profile}
use Rattle.records.specs.declared.rows.Network.{Network}
use Rattle.records.specs.declared.rows.Pool.{Pool}
use Rattle.records.specs.declared.rows.Volume.{Volume}
use Rattle.records.specs.declared.rows.Instance.{Instance}
use Rattle.records.specs.declared.rows.Snapshot.{Snapshot}
use Rattle.records.specs.declared.rows.Row.TheVariants as row
use Rattle.records.specs.declared.commands.Target.{Target}
use Rattle.records.specs.declared.commands.Body.{Body}
use Rattle.records.specs.declared.commands.Command.{Command}
use Rattle.row_machine.specs.declared.changes.RowChange.{RowChange}
use Rattle.row_machine.specs.machine.Task.{Task}
use Rattle.row_machine.specs.machine.State.{State}
use Rattle.row_machine.specs.machine.Rows.{default_name, project_named, profile_named, network_named, pool_named, volume_named, instance_named, snapshot_named}
use Rattle.row_machine.specs.machine.Homes.{home_of}
use Rattle.row_machine.specs.machine.Changes.{applied, rows_put, removal}
use Rattle.row_machine.specs.shown.Urls.{target_of}
use Rattle.row_machine.specs.machine.Holders.{busy_with, holder_of, first_user_of}
use Rattle.row_machine.specs.machine.NameRules.{claims_object}
use Rattle.row_machine.specs.machine.Rules.{names_broken}
use Rattle.row_machine.specs.machine.StandingRules.{power_of, changes_features, is_occupied}
use Rattle.row_machine.specs.machine.Rules.{standing_broken}
use Rattle.row_machine.specs.machine.SettingRules.{settings_broken}
use Rattle.row_machine.specs.machine.PolicyRules.{policy_broken, snapshot_blocked}
use Rattle.row_machine.specs.machine.LimitRules.{counts_broken, limits_broken}
use Rattle.row_machine.specs.machine.TableRules.{entry_broken, tables_broken}
use Rattle.row_machine.specs.machine.NewRows.{source_instance, source_snapshot}
use Rattle.row_machine.specs.machine.Plans.{put_all, moved_row, project_creation, project_change, project_rename, project_deletion, instance_target, snapshot_target}
use Rattle.row_machine.specs.machine.Tasks.{creation_task, copy, volume_copy, snapshot_creation, update_task, restore_task, rename_task, deletion_task, snapshot_deletion, act_task}
use Rattle.row_machine.specs.machine.Operations.{claiming}
pub use Rattle.machine_laws.specs.Accepted.{IsAccepted, IsLiveAs}

-- ---- no rule is broken

-- by changes at once
pub record IsJudged (s : State) (c : Command) (cs : List RowChange) : Type 0 where
  pub names : names_broken s c ≡ None
  pub standing : standing_broken s c ≡ None
  pub settings : settings_broken (applied s cs) (rows_put cs) ≡ None
  pub policy : policy_broken (applied s cs) ≡ None
  pub snapshots : snapshot_blocked s c ≡ None
  pub counts : counts_broken (applied s cs) ≡ None
  pub limits : limits_broken s (applied s cs) ≡ None
  pub tables : tables_broken (applied s cs) (rows_put cs) ≡ None

-- by an operation that begins: the state is judged with its claim
pub record IsEntryJudged (s : State) (c : Command) (task : Task) (moment : ℕ) : Type 0 where
  pub names : names_broken s c ≡ None
  pub standing : standing_broken s c ≡ None
  pub settings : settings_broken (claiming s task moment) (option_to_list task.claim) ≡ None
  pub policy : policy_broken (claiming s task moment) ≡ None
  pub snapshots : snapshot_blocked s c ≡ None
  pub counts : counts_broken (claiming s task moment) ≡ None
  pub limits : limits_broken s (claiming s task moment) ≡ None
  pub entry : entry_broken s ≡ None
  pub tables : tables_broken (claiming s task moment) (option_to_list task.claim) ≡ None

-- ---- what the rules on names and on what stands in the way establish

-- a project that is there and is its own home for the objects of this kind
pub record IsHome (s : State) (home : List ℕ) (kind : ObjectKind) : Type 0 where
  pub there : is_some (project_named s.projects home) ≡ true
  pub own : home_of s.projects home kind ≡ home

-- whether the object of this home is there
abbrev pub is_row : State → List ℕ → Target → Bool
is_row s home of = there of.kind where
  there : ObjectKind → Bool
  there kind.Project = is_some (project_named s.projects of.name)
  there kind.Profile = is_some (profile_named s.profiles home of.name)
  there kind.Network = is_some (network_named s.networks home of.name)
  there kind.Pool = is_some (pool_named s.pools of.name)
  there kind.Volume = is_some (volume_named s.volumes home of.pool of.name)
  there kind.Instance = is_some (instance_named s.instances home of.name)
  there kind.Snapshot = is_some (snapshot_named s.snapshots home of.instance of.name)
  there kind.Operation = false

-- a name that is good, no row's of this home, and no live claim's
pub record IsNew (s : State) (home : List ℕ) (of : Target) : Type 0 where
  pub good : good_name_of of.kind of.name ≡ true
  pub free : is_row s home of ≡ false
  pub unclaimed : Each (λ o. claims_object home of o.work ≡ false) s.operations.live

-- the project is not `default`
abbrev pub IsNotDefault : List ℕ → Type 0
IsNotDefault name = name ≢ default_name

-- a volume, by its pool and its name
abbrev pub volume_target : List ℕ → List ℕ → Target
volume_target pool name = record { kind = kind.Volume; pool = pool; instance = []; name = name }

-- an instance that is there, and no live operation keeps it busy
pub record IsIdle (s : State) (i : Instance) : Type 0 where
  pub project : is_some (project_named s.projects i.project) ≡ true
  pub there : instance_named s.instances i.project i.name ≡ Some i
  pub idle : busy_with s i.project i.name ≡ None

-- the status of the instance allows the deed
abbrev pub Allows : State → Deed → Instance → Type 0
Allows s does i = IfSome (power_of s i.project i.name) (λ power. is_allowed does power ≡ true)

-- an instance under the same name, of the same type and age
pub record IsSameInstance (old i : Instance) : Type 0 where
  pub project : i.project ≡ old.project
  pub name : i.name ≡ old.name
  pub kind : i.kind ≡ old.kind
  pub created : i.created ≡ old.created
  pub profiles : are_profiles i.profiles ≡ true

-- ---- changes at once, by their forms

pub data AtOnce (s : State) : List RowChange → Type 0 where
  makes_project : (r : Project) → good_name_of kind.Project r.name ≡ true → project_named s.projects r.name ≡ None
      → AtOnce s (project_creation r)
  -- features change only where nothing is in the project, which is then not `default`
  changes_project : (old r : Project) → project_named s.projects old.name ≡ Some old → r.name ≡ old.name
      → (changes_features old r ≡ true → (is_occupied s old.name ≡ false) × IsNotDefault old.name)
      → AtOnce s (project_change old r)
  renames_project : (old : Project) (to : List ℕ) → project_named s.projects old.name ≡ Some old → IsNotDefault old.name
      → is_occupied s old.name ≡ false → good_name_of kind.Project to ≡ true → project_named s.projects to ≡ None
      → AtOnce s (project_rename s to old)
  deletes_project : (old : Project) → project_named s.projects old.name ≡ Some old → IsNotDefault old.name
      → is_occupied s old.name ≡ false → AtOnce s (project_deletion s old)
  makes_profile : (r : Profile) → IsHome s r.project kind.Profile → IsNew s r.project (target_of (row.Profile r))
      → AtOnce s (put_all (row.Profile r ∷ []))
  changes_profile : (old r : Profile) → IsHome s old.project kind.Profile → profile_named s.profiles old.project old.name ≡ Some old
      → r.project ≡ old.project → r.name ≡ old.name → holder_of s old.project old.name ≡ None
      → AtOnce s (put_all (row.Profile r ∷ []))
  renames_profile : (old : Profile) (to : List ℕ) → IsHome s old.project kind.Profile → profile_named s.profiles old.project old.name ≡ Some old
      → IsNotDefault old.name → first_user_of s old.project (target_of (row.Profile old)) ≡ None → holder_of s old.project old.name ≡ None
      → IsNew s old.project (target_of (row.Profile (record old { name = to })))
      → AtOnce s (moved_row (row.Profile old) (row.Profile (record old { name = to })))
  deletes_profile : (old : Profile) → IsHome s old.project kind.Profile → profile_named s.profiles old.project old.name ≡ Some old
      → IsNotDefault old.name → first_user_of s old.project (target_of (row.Profile old)) ≡ None → holder_of s old.project old.name ≡ None
      → AtOnce s (removal (row.Profile old) ∷ [])
  makes_network : (r : Network) → IsHome s r.project kind.Network → IsNew s r.project (target_of (row.Network r))
      → AtOnce s (put_all (row.Network r ∷ []))
  changes_network : (old r : Network) → IsHome s old.project kind.Network → network_named s.networks old.project old.name ≡ Some old
      → r.project ≡ old.project → r.name ≡ old.name → AtOnce s (put_all (row.Network r ∷ []))
  renames_network : (old : Network) (to : List ℕ) → IsHome s old.project kind.Network → network_named s.networks old.project old.name ≡ Some old
      → first_user_of s old.project (target_of (row.Network old)) ≡ None
      → IsNew s old.project (target_of (row.Network (record old { name = to })))
      → AtOnce s (moved_row (row.Network old) (row.Network (record old { name = to })))
  deletes_network : (old : Network) → IsHome s old.project kind.Network → network_named s.networks old.project old.name ≡ Some old
      → first_user_of s old.project (target_of (row.Network old)) ≡ None → AtOnce s (removal (row.Network old) ∷ [])
  makes_pool : (home : List ℕ) (r : Pool) → IsNew s home (target_of (row.Pool r)) → AtOnce s (put_all (row.Pool r ∷ []))
  changes_pool : (old r : Pool) → pool_named s.pools old.name ≡ Some old → r.name ≡ old.name → AtOnce s (put_all (row.Pool r ∷ []))
  deletes_pool : (home : List ℕ) (old : Pool) → pool_named s.pools old.name ≡ Some old
      → first_user_of s home (target_of (row.Pool old)) ≡ None → AtOnce s (removal (row.Pool old) ∷ [])
  makes_volume : (r : Volume) → IsHome s r.project kind.Volume → is_some (pool_named s.pools r.pool) ≡ true
      → IsNew s r.project (target_of (row.Volume r)) → r.created < moment_limit → AtOnce s (put_all (row.Volume r ∷ []))
  changes_volume : (old r : Volume) → IsHome s old.project kind.Volume → volume_named s.volumes old.project old.pool old.name ≡ Some old
      → r.project ≡ old.project → r.pool ≡ old.pool → r.name ≡ old.name → r.created ≡ old.created → AtOnce s (put_all (row.Volume r ∷ []))
  renames_volume : (old : Volume) (to : List ℕ) → IsHome s old.project kind.Volume → volume_named s.volumes old.project old.pool old.name ≡ Some old
      → first_user_of s old.project (target_of (row.Volume old)) ≡ None
      → IsNew s old.project (target_of (row.Volume (record old { name = to })))
      → AtOnce s (moved_row (row.Volume old) (row.Volume (record old { name = to })))
  deletes_volume : (old : Volume) → IsHome s old.project kind.Volume → volume_named s.volumes old.project old.pool old.name ≡ Some old
      → first_user_of s old.project (target_of (row.Volume old)) ≡ None → AtOnce s (removal (row.Volume old) ∷ [])
  changes_instance : (old i : Instance) → IsIdle s old → IsSameInstance old i → AtOnce s (put_all (row.Instance i ∷ []))

-- ---- operations that begin, by their deeds

pub data Begins (s : State) : Task → Type 0 where
  creates : (project name : List ℕ) (body : Body) (moment : ℕ) → is_some (project_named s.projects project) ≡ true
      → IsNew s project (instance_target name) → option_map_or are_profiles body.profiles true ≡ true → moment < moment_limit
      → Begins s (creation_task project (instance_target name) body moment)
  copies_instance : (name : List ℕ) (body : Body) (moment : ℕ) (i : Instance) → IsIdle s i
      → IsNew s i.project (instance_target name) → option_map_or are_profiles body.profiles true ≡ true → moment < moment_limit
      → Begins s (copy i.project (instance_target name) body moment (instance_target i.name) (source_instance i))
  copies_snapshot : (name : List ℕ) (body : Body) (moment : ℕ) (i : Instance) (r : Snapshot) → IsIdle s i
      → snapshot_named s.snapshots i.project i.name r.name ≡ Some r
      → IsNew s i.project (instance_target name) → option_map_or are_profiles body.profiles true ≡ true → moment < moment_limit
      → Begins s (copy i.project (instance_target name) body moment (snapshot_target i.name r.name) (source_snapshot i r))
  copies_volume : (pool name : List ℕ) (body : Body) (moment : ℕ) (v : Volume) → IsHome s v.project kind.Volume
      → volume_named s.volumes v.project v.pool v.name ≡ Some v → is_some (pool_named s.pools v.pool) ≡ true
      → is_some (pool_named s.pools pool) ≡ true → IsNew s v.project (volume_target pool name) → moment < moment_limit
      → Begins s (volume_copy v.project (volume_target pool name) body moment (volume_target v.pool v.name) v)
  updates : (old i : Instance) → IsIdle s old → IsSameInstance old i → Begins s (update_task s old.project (instance_target old.name) i)
  restores : (i : Instance) (r : Snapshot) → IsIdle s i → Allows s deed.Restore i
      → snapshot_named s.snapshots i.project i.name r.name ≡ Some r
      → Begins s (restore_task i.project (instance_target i.name) i r)
  renames : (i : Instance) (to : List ℕ) → IsIdle s i → Allows s deed.Rename i → IsNew s i.project (instance_target to)
      → Begins s (rename_task i.project (instance_target i.name) to i)
  deletes : (i : Instance) → IsIdle s i → Allows s deed.Delete i → Begins s (deletion_task i.project (instance_target i.name))
  acts : (action : Action) (i : Instance) → IsIdle s i → Allows s (deed.Act action false) i
      → Begins s (act_task s i.project (instance_target i.name) action i)
  snaps : (name : List ℕ) (moment : ℕ) (i : Instance) → IsIdle s i → Allows s deed.Snap i → IsNew s i.project (snapshot_target i.name name)
      → moment < moment_limit → Begins s (snapshot_creation i.project (snapshot_target i.name name) moment i)
  unsnaps : (i : Instance) (r : Snapshot) → IsIdle s i → snapshot_named s.snapshots i.project i.name r.name ≡ Some r
      → Begins s (snapshot_deletion i.project (snapshot_target i.name r.name))
