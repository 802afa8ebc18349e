-- Creations at once: a project, profile, network, pool or volume under a new name.
use Rattle.std.proofs.Common.{◌≡◌, ℕ, Bool, true, false, cond, ◌&&◌, ◌==◌, length, Option, Some, None, List, [], ◌∷◌, refl, subst}
use Rattle.std.specs.Option.{is_some}
use Rattle.plain_lists.proofs.FirstLemmas.{none_both, told_unless}
use Rattle.size_values.specs.declared.kinds.ObjectKind.{ObjectKind}
use Rattle.size_values.specs.declared.kinds.ObjectKind.TheVariants as kind
use Rattle.records.specs.Forms.{is_empty, is_creation}
use Rattle.records.specs.declared.commands.Body.{Body}
use Rattle.records.specs.declared.commands.Origin.{Origin}
use Rattle.records.specs.declared.commands.Origin.TheVariants as origin
use Rattle.records.specs.declared.commands.What.TheVariants as what
use Rattle.records.specs.declared.rows.Volume.{Volume}
use Rattle.records.specs.declared.rows.Instance.{Instance}
use Rattle.records.specs.declared.rows.Snapshot.{Snapshot}
use Rattle.records.specs.declared.rows.Row.TheVariants as row
use Rattle.row_codec.proofs.Fields.{both_true}
use Rattle.row_machine.specs.declared.changes.RowChange.{RowChange}
use Rattle.records.specs.declared.commands.Target.{Target}
use Rattle.row_machine.specs.machine.Task.{Task}
use Rattle.row_machine.specs.machine.State.{State}
use Rattle.row_machine.specs.machine.Rows.{pool_named, instance_named, snapshot_named}
use Rattle.row_machine.specs.machine.Homes.{home_of}
use Rattle.row_machine.specs.machine.NameRules.{what_is_missing, parent_missing}
use Rattle.row_machine.specs.machine.NewRows.{made_project, made_profile, made_network, made_pool, made_volume}
use Rattle.row_machine.specs.machine.Plans.{changes, starts, plan_of, put_all, project_creation, volume_creation, instance_creation, if_there}
use Rattle.machine_laws.proofs.Cases.{IsAccepted, AtOnce}
use Rattle.machine_laws.proofs.Cases.AtOnce.{makes_project, makes_profile, makes_network, makes_pool, makes_volume}
use Rattle.machine_laws.proofs.Found.{not-there}
use Rattle.machine_laws.proofs.Judged.{judged}
use Rattle.machine_laws.proofs.Commands.{command_of, target, changes-are, never_nothing, never_starts, no-parts}
use Rattle.machine_laws.proofs.Told.{AreNamesRight, names-right, project-there, name-new, new-plain, new-in_pool, profile-home, network-home, volume-home, empty-is}

-- an accepted creation
abbrev IsMade : Option (List ℕ) → State → List ℕ → ObjectKind → List ℕ → List ℕ → List ℕ → Body → ℕ → List RowChange → Type 0
IsMade expects s project k pool instance name body moment cs =
    IsAccepted s (command_of project expects (what.Create (target k pool instance name) body)) moment (changes cs)

-- a volume's instance part is empty, and the parts of others than volumes and snapshots too
made_names : {s : State} {project : List ℕ} {expects : Option (List ℕ)} {k : ObjectKind} {pool instance name : List ℕ} {body : Body} {moment : ℕ} {cs : List RowChange}
    → IsMade expects s project k pool instance name body moment cs → AreNamesRight s (command_of project expects (what.Create (target k pool instance name) body))
made_names {s} {project} {expects} {k} {pool} {instance} {name} {body} h = names-right s (command_of project expects (what.Create (target k pool instance name) body)) (judged h).names

makes-project : {expects : Option (List ℕ)} (s : State) (project pool instance name : List ℕ) (body : Body) (moment : ℕ) (cs : List RowChange)
    → IsMade expects s project kind.Project pool instance name body moment cs → AtOnce s cs
unfolding plan_of
makes-project s project pool instance name body moment cs h =
    let is : project_creation (made_project name body) ≡ cs = changes-are h.plan in
    let new = name-new s project (target kind.Project pool instance name) (made_names h).name in
    subst (AtOnce s) is (makes_project (made_project name body) new.good (not-there _ new.free))

makes-profile : {expects : Option (List ℕ)} (s : State) (project pool instance name : List ℕ) (body : Body) (moment : ℕ) (cs : List RowChange)
    → IsMade expects s project kind.Profile pool instance name body moment cs → AtOnce s cs
unfolding plan_of
makes-profile s project pool instance name body moment cs h =
    let r = made_profile (home_of s.projects project kind.Profile) name body in
    let is : put_all (row.Profile r ∷ []) ≡ cs = changes-are h.plan in
    let of = target kind.Profile pool instance name in
    let names = made_names h in
    let there = project-there s _ of refl refl names.project in
    let empty = no-parts pool instance (both_true (is_empty pool && is_empty instance) (is_creation kind.Profile body) h.formed).0 in
    subst (AtOnce s) is (makes_profile r (profile-home s project h.whole.defaults there) (new-plain empty.0 empty.1 (name-new s project of names.name)))

makes-network : {expects : Option (List ℕ)} (s : State) (project pool instance name : List ℕ) (body : Body) (moment : ℕ) (cs : List RowChange)
    → IsMade expects s project kind.Network pool instance name body moment cs → AtOnce s cs
unfolding plan_of
makes-network s project pool instance name body moment cs h =
    let r = made_network (home_of s.projects project kind.Network) name body in
    let is : put_all (row.Network r ∷ []) ≡ cs = changes-are h.plan in
    let of = target kind.Network pool instance name in
    let names = made_names h in
    let there = project-there s _ of refl refl names.project in
    let empty = no-parts pool instance (both_true (is_empty pool && is_empty instance) (is_creation kind.Network body) h.formed).0 in
    subst (AtOnce s) is (makes_network r (network-home s project h.whole.defaults there) (new-plain empty.0 empty.1 (name-new s project of names.name)))

makes-pool : {expects : Option (List ℕ)} (s : State) (project pool instance name : List ℕ) (body : Body) (moment : ℕ) (cs : List RowChange)
    → IsMade expects s project kind.Pool pool instance name body moment cs → AtOnce s cs
unfolding plan_of
makes-pool s project pool instance name body moment cs h =
    let r = made_pool name body in
    let is : put_all (row.Pool r ∷ []) ≡ cs = changes-are h.plan in
    let of = target kind.Pool pool instance name in
    let names = made_names h in
    let empty = no-parts pool instance (both_true (is_empty pool && is_empty instance) (is_creation kind.Pool body) h.formed).0 in
    subst (AtOnce s) is (makes_pool (home_of s.projects project kind.Pool) r (new-plain empty.0 empty.1 (name-new s project of names.name)))

makes-volume : {expects : Option (List ℕ)} (s : State) (project pool instance name : List ℕ) (body : Body) (moment : ℕ) (cs : List RowChange)
    → IsMade expects s project kind.Volume pool instance name body moment cs → AtOnce s cs
unfolding plan_of what_is_missing
makes-volume s project pool instance name body moment cs h = by body.origin h.plan where
  of : Target
  of = target kind.Volume pool instance name

  home : List ℕ
  home = home_of s.projects project kind.Volume

  r : Volume
  r = made_volume home of body moment

  at_once : put_all (row.Volume r ∷ []) ≡ cs → AtOnce s cs
  at_once is =
      let names = made_names h in
      let there = project-there s _ of refl refl names.project in
      let pool_there : is_some (pool_named s.pools pool) ≡ true = told_unless _ _ (none_both (parent_missing s project of) _ names.objects).0 in
      let empty = empty-is instance (both_true (is_empty instance) (is_creation kind.Volume body) h.formed).0 in
      subst (AtOnce s) is (makes_volume r (volume-home s project h.whole.defaults there) pool_there (new-in_pool empty (name-new s project of names.name)) h.early)

  copied : (o : Option Volume) (task : Volume → Task) → if_there (λ v. starts (task v)) o ≡ changes cs → AtOnce s cs
  copied None task e = never_nothing e
  copied (Some v) task e = never_starts e

  by : (o : Origin) → volume_creation s home of body moment o ≡ changes cs → AtOnce s cs
  by origin.None e = at_once (changes-are e)
  by (origin.Image alias) e = at_once (changes-are e)
  by (origin.Copy from snapshot from_pool) e = copied _ _ e

-- creations of instances and snapshots begin operations

never-copied : {cs : List RowChange} {X : Type 0} (i : Option Instance) (by_name : Bool) (r : Option Snapshot) (task : Instance → Task) (other : Instance → Snapshot → Task)
    → if_there (λ i. cond by_name (starts (task i)) (if_there (λ r. starts (other i r)) r)) i ≡ changes cs → X
never-copied None by_name r task other e = never_nothing e
never-copied (Some i) true r task other e = never_starts e
never-copied (Some i) false None task other e = never_nothing e
never-copied (Some i) false (Some r) task other e = never_starts e

never-instance : (s : State) (project : List ℕ) (of : Target) (body : Body) (moment : ℕ) (cs : List RowChange) (o : Origin)
    → instance_creation s project of body moment o ≡ changes cs → AtOnce s cs
never-instance s project of body moment cs origin.None e = never_starts e
never-instance s project of body moment cs (origin.Image alias) e = never_starts e
never-instance s project of body moment cs (origin.Copy from snapshot pool) e =
    never-copied (instance_named s.instances project from) (length snapshot == 0) (snapshot_named s.snapshots project from snapshot) _ _ e

never-snapshot : {cs : List RowChange} {X : Type 0} (i : Option Instance) (task : Instance → Task) → if_there (λ i. starts (task i)) i ≡ changes cs → X
never-snapshot None task e = never_nothing e
never-snapshot (Some i) task e = never_starts e

pub creates : {expects : Option (List ℕ)} (s : State) (project : List ℕ) (k : ObjectKind) (pool instance name : List ℕ) (body : Body) (moment : ℕ) (cs : List RowChange)
    → IsMade expects s project k pool instance name body moment cs → AtOnce s cs
unfolding plan_of
creates s project kind.Project pool instance name body moment cs h = makes-project s project pool instance name body moment cs h
creates s project kind.Profile pool instance name body moment cs h = makes-profile s project pool instance name body moment cs h
creates s project kind.Network pool instance name body moment cs h = makes-network s project pool instance name body moment cs h
creates s project kind.Pool pool instance name body moment cs h = makes-pool s project pool instance name body moment cs h
creates s project kind.Volume pool instance name body moment cs h = makes-volume s project pool instance name body moment cs h
creates s project kind.Instance pool instance name body moment cs h =
    never-instance s project (target kind.Instance pool instance name) body moment cs body.origin h.plan
creates s project kind.Snapshot pool instance name body moment cs h = never-snapshot (instance_named s.instances project instance) _ h.plan
creates s project kind.Operation pool instance name body moment cs h = never_nothing h.plan
