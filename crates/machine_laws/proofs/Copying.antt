-- Operations that make something new: instances, copies, snapshots, and copies of volumes.
use Rattle.std.proofs.Common.{◌≡◌, ℕ, Bool, true, false, cond, ◌&&◌, ◌==◌, length, Option, Some, None, List, [], refl, sym, ap, subst, ◌∙◌}
use Rattle.std.specs.Option.{option_map_or, option_and_then, is_some}
use Rattle.plain_lists.proofs.FirstLemmas.{none_both, told_unless, not_mapped}
use Rattle.size_values.specs.declared.kinds.Deed.TheVariants as deed
use Rattle.size_values.specs.declared.kinds.ObjectKind.{ObjectKind}
use Rattle.size_values.specs.declared.kinds.ObjectKind.TheVariants as kind
use Rattle.records.specs.Forms.{is_empty, is_creation, are_profiles}
use Rattle.records.specs.declared.commands.Body.{Body}
use Rattle.records.specs.declared.commands.Origin.{Origin}
use Rattle.records.specs.declared.commands.Origin.TheVariants as origin
use Rattle.records.specs.declared.commands.What.TheVariants as what
use Rattle.records.specs.declared.commands.Target.{Target}
use Rattle.records.specs.declared.rows.Volume.{Volume}
use Rattle.records.specs.declared.rows.Instance.{Instance}
use Rattle.records.specs.declared.rows.Snapshot.{Snapshot}
use Rattle.row_codec.proofs.Fields.{both_true}
use Rattle.row_machine.specs.machine.Task.{Task}
use Rattle.row_machine.specs.machine.State.{State}
use Rattle.row_machine.specs.machine.Rows.{project_named, pool_named, volume_named, instance_named, snapshot_named}
use Rattle.row_machine.specs.machine.Homes.{home_of}
use Rattle.row_machine.specs.machine.Holders.{busy_with}
use Rattle.row_machine.specs.machine.Asked.{with_name, next_snapshot, copied_from}
use Rattle.row_machine.specs.machine.NameRules.{what_is_missing, parent_missing, source_missing, volume_source}
use Rattle.row_machine.specs.machine.StandingRules.{instance_busy, named_instance_busy}
use Rattle.row_machine.specs.machine.NewRows.{source_instance, source_snapshot}
use Rattle.row_machine.specs.machine.Plans.{starts, plan_of, if_there, instance_creation, volume_creation, instance_target, snapshot_target}
use Rattle.row_machine.specs.machine.Tasks.{creation_task, copy, volume_copy, snapshot_creation}
use Rattle.machine_laws.proofs.Cases.{IsAccepted, Begins, IsHome, IsNew, IsIdle, volume_target}
use Rattle.machine_laws.proofs.Cases.Begins.{creates, copies_instance, copies_snapshot, copies_volume, snaps}
use Rattle.machine_laws.proofs.Found.{instance-found, snapshot-found, volume-found, volume-itself}
use Rattle.machine_laws.proofs.Commands.{command_of, target, starts-are, nothing_begins, never_changes, no-parts, creation-profiles, idle-found, accepted-names, accepted-way}
use Rattle.machine_laws.proofs.Told.{empty-is, name-new, new-plain, new-in_pool, new-in_instance, project-there, object-there, volume-home}
use Rattle.machine_laws.proofs.Entering.{plain-target, snapshot-parts, status-allows}

-- an accepted creation
abbrev Starts : Option (List ℕ) → State → List ℕ → ObjectKind → List ℕ → List ℕ → List ℕ → Body → ℕ → Task → Type 0
Starts expects s project k pool instance name body moment task =
    IsAccepted s (command_of project expects (what.Create (target k pool instance name) body)) moment (starts task)

-- ---- instances

pub makes-instance : {expects : Option (List ℕ)} (s : State) (project pool instance name : List ℕ) (body : Body) (moment : ℕ) (task : Task)
    → Starts expects s project kind.Instance pool instance name body moment task → Begins s task
unfolding plan_of home_of what_is_missing instance_busy
makes-instance s project pool instance name body moment task h = by body.origin refl h.plan where
  of : Target
  of = target kind.Instance pool instance name

  forms : ((is_empty pool && is_empty instance) ≡ true) × (is_creation kind.Instance body ≡ true)
  forms = both_true (is_empty pool && is_empty instance) (is_creation kind.Instance body) h.formed

  parts : (pool ≡ []) × (instance ≡ [])
  parts = no-parts pool instance forms.0

  profiles : option_map_or are_profiles body.profiles true ≡ true
  profiles = creation-profiles kind.Instance body forms.1

  there : is_some (project_named s.projects project) ≡ true
  there = project-there s _ of refl refl (accepted-names h).project

  new : IsNew s project (instance_target name)
  new = new-plain parts.0 parts.1 (name-new s project of (accepted-names h).name)

  targets : instance_target name ≡ of
  targets = plain-target kind.Instance parts.0 parts.1 refl

  plainly : creation_task project of body moment ≡ task → Begins s task
  plainly is = subst (Begins s) (ap (λ t. creation_task project t body moment) targets ∙ is) (creates project name body moment there new profiles h.early)

  -- a copy is of an instance that is not busy
  idle : (from snapshot from_pool : List ℕ) → body.origin ≡ origin.Copy from snapshot from_pool → busy_with s project from ≡ None
  idle from snapshot from_pool is =
      not_mapped _ _ (ap (λ o. option_and_then (named_instance_busy s project) (copied_from kind.Instance o)) (sym is) ∙ (accepted-way h).idle)

  and_snapshot : (from : List ℕ) (i : Instance) → instance_named s.instances project from ≡ Some i → IsIdle s i → (snapshot : List ℕ) (o : Option Snapshot)
      → snapshot_named s.snapshots project from snapshot ≡ o
      → if_there (λ r. starts (copy project of body moment (snapshot_target from snapshot) (source_snapshot i r))) o ≡ starts task → Begins s task
  and_snapshot from i is rest snapshot None found e = nothing_begins e
  and_snapshot from i is rest snapshot (Some r) found e =
      let named = instance-found s.instances project from i is in
      let row_named = snapshot-found s.snapshots project from snapshot r found in
      subst (Begins s)
      (ap (λ p. copy p (instance_target name) body moment (snapshot_target i.name r.name) (source_snapshot i r)) named.0
      ∙ ap (λ t. copy project t body moment (snapshot_target i.name r.name) (source_snapshot i r)) targets
      ∙ ap (λ n. copy project of body moment (snapshot_target n r.name) (source_snapshot i r)) named.1
      ∙ ap (λ n. copy project of body moment (snapshot_target from n) (source_snapshot i r)) row_named.1.1
      ∙ starts-are e)
      (copies_snapshot name body moment i r rest
      (ap (λ p. snapshot_named s.snapshots p i.name r.name) named.0 ∙ ap (λ n. snapshot_named s.snapshots project n r.name) named.1
      ∙ ap (snapshot_named s.snapshots project from) row_named.1.1 ∙ found)
      (subst (λ p. IsNew s p (instance_target name)) (sym named.0) new) profiles h.early)

  copied : (from snapshot from_pool : List ℕ) → body.origin ≡ origin.Copy from snapshot from_pool → (o : Option Instance) → instance_named s.instances project from ≡ o
      → (whole : Bool)
      → if_there (λ i. cond whole (starts (copy project of body moment (instance_target from) (source_instance i)))
      (if_there (λ r. starts (copy project of body moment (snapshot_target from snapshot) (source_snapshot i r))) (snapshot_named s.snapshots project from snapshot))) o
      ≡ starts task → Begins s task
  copied from snapshot from_pool origin_is None is whole e = nothing_begins e
  copied from snapshot from_pool origin_is (Some i) is true e =
      let named = instance-found s.instances project from i is in
      let rest = idle-found s project from i is there (idle from snapshot from_pool origin_is) in
      subst (Begins s)
      (ap (λ p. copy p (instance_target name) body moment (instance_target i.name) (source_instance i)) named.0
      ∙ ap (λ t. copy project t body moment (instance_target i.name) (source_instance i)) targets
      ∙ ap (λ n. copy project of body moment (instance_target n) (source_instance i)) named.1
      ∙ starts-are e)
      (copies_instance name body moment i rest (subst (λ p. IsNew s p (instance_target name)) (sym named.0) new) profiles h.early)
  copied from snapshot from_pool origin_is (Some i) is false e =
      and_snapshot from i is (idle-found s project from i is there (idle from snapshot from_pool origin_is)) snapshot
      (snapshot_named s.snapshots project from snapshot) refl e

  by : (o : Origin) → body.origin ≡ o → instance_creation s project of body moment o ≡ starts task → Begins s task
  by origin.None is e = plainly (starts-are e)
  by (origin.Image alias) is e = plainly (starts-are e)
  by (origin.Copy from snapshot from_pool) is e =
      copied from snapshot from_pool is (instance_named s.instances project from) refl (length snapshot == 0) e

-- ---- snapshots

-- a new snapshot is its target under some name
with-name : (s : State) (project pool instance name : List ℕ)
    → with_name s project (target kind.Snapshot pool instance name) ≡ target kind.Snapshot pool instance (with_name s project (target kind.Snapshot pool instance name)).name
with-name s project pool instance name = at (length name == 0) (instance_named s.instances project instance) where
  of : Target
  of = target kind.Snapshot pool instance name

  numbered : Option Instance → Target
  numbered o = option_map_or (λ i. record of { name = next_snapshot s i }) o of

  at : (b : Bool) (o : Option Instance) → cond b (numbered o) of ≡ target kind.Snapshot pool instance (cond b (numbered o) of).name
  at true None = refl
  at true (Some i) = refl
  at false o = refl

pub makes-snapshot : {expects : Option (List ℕ)} (s : State) (project pool instance name : List ℕ) (body : Body) (moment : ℕ) (task : Task)
    → Starts expects s project kind.Snapshot pool instance name body moment task → Begins s task
unfolding plan_of home_of instance_busy
makes-snapshot s project pool instance name body moment task h = by (instance_named s.instances project instance) refl h.plan where
  of : Target
  of = target kind.Snapshot pool instance name

  given : List ℕ
  given = (with_name s project of).name

  by : (o : Option Instance) → instance_named s.instances project instance ≡ o
      → if_there (λ i. starts (snapshot_creation project (with_name s project of) moment i)) o ≡ starts task → Begins s task
  by None is e = nothing_begins e
  by (Some i) is e =
      let named = instance-found s.instances project instance i is in
      let names = accepted-names h in
      let there = project-there s _ of refl refl names.project in
      let idle = idle-found s project instance i is there (not_mapped _ _ (accepted-way h).idle) in
      let empty = empty-is pool (both_true (is_empty pool) (is_creation kind.Snapshot body) h.formed).0 in
      let exact = with-name s project pool instance name in
      let new : IsNew s project (snapshot_target instance given) =
      new-in_instance empty (subst (λ t. IsNew s (home_of s.projects project t.kind) t) exact (name-new s project (with_name s project of) names.name)) in
      subst (Begins s)
      (ap (λ p. snapshot_creation p (snapshot_target i.name given) moment i) named.0
      ∙ ap (λ t. snapshot_creation project t moment i) (snapshot-parts empty named.1 refl ∙ sym exact)
      ∙ starts-are e)
      (snaps given moment i idle (status-allows deed.Snap instance i (accepted-way h) refl is)
      (subst (λ p. IsNew s p (snapshot_target i.name given)) (sym named.0) (subst (λ n. IsNew s project (snapshot_target n given)) (sym named.1) new)) h.early)

-- ---- copies of volumes

pub copies-volume : {expects : Option (List ℕ)} (s : State) (project pool instance name : List ℕ) (body : Body) (moment : ℕ) (task : Task)
    → Starts expects s project kind.Volume pool instance name body moment task → Begins s task
unfolding plan_of what_is_missing
copies-volume s project pool instance name body moment task h = by body.origin refl h.plan where
  of : Target
  of = target kind.Volume pool instance name

  home : List ℕ
  home = home_of s.projects project kind.Volume

  copied : (from snapshot from_pool : List ℕ) → body.origin ≡ origin.Copy from snapshot from_pool → (o : Option Volume) → volume_named s.volumes home from_pool from ≡ o
      → if_there (λ v. starts (volume_copy home of body moment (volume_source of from from_pool) v)) o ≡ starts task → Begins s task
  copied from snapshot from_pool origin_is None is e = nothing_begins e
  copied from snapshot from_pool origin_is (Some v) is e =
      let named = volume-found s.volumes home from_pool from v is in
      let names = accepted-names h in
      let there = project-there s _ of refl refl names.project in
      let missing = none_both (parent_missing s project of) _ names.objects in
      let pool_there : is_some (pool_named s.pools pool) ≡ true = told_unless _ _ missing.0 in
      let source = none_both (source_missing s project of body.origin) None missing.1 in
      let source_there = object-there s project (volume_source of from from_pool) (ap (source_missing s project of) (sym origin_is) ∙ source.0) in
      let from_pool_there : is_some (pool_named s.pools from_pool) ≡ true = told_unless _ _ source_there.0 in
      let empty = empty-is instance (both_true (is_empty instance) (is_creation kind.Volume body) h.formed).0 in
      let new : IsNew s home (volume_target pool name) = new-in_pool empty (name-new s project of names.name) in
      let targets : volume_target pool name ≡ of = ap (λ x. target kind.Volume pool x name) (sym empty) in
      let sources : volume_target v.pool v.name ≡ volume_source of from from_pool =
      ap (λ x. target kind.Volume x [] v.name) named.1.0 ∙ ap (λ x. target kind.Volume from_pool x v.name) (sym empty)
      ∙ ap (λ x. target kind.Volume from_pool instance x) named.1.1 in
      subst (Begins s)
      (ap (λ p. volume_copy p (volume_target pool name) body moment (volume_target v.pool v.name) v) named.0
      ∙ ap (λ t. volume_copy home t body moment (volume_target v.pool v.name) v) targets
      ∙ ap (λ t. volume_copy home of body moment t v) sources
      ∙ starts-are e)
      (copies_volume pool name body moment v (subst (λ p. IsHome s p kind.Volume) (sym named.0) (volume-home s project h.whole.defaults there))
      (volume-itself s.volumes home from_pool from v is)
      (subst (λ p. is_some (pool_named s.pools p) ≡ true) (sym named.1.0) from_pool_there)
      pool_there (subst (λ p. IsNew s p (volume_target pool name)) (sym named.0) new) h.early)

  by : (o : Origin) → body.origin ≡ o → volume_creation s home of body moment o ≡ starts task → Begins s task
  by origin.None is e = never_changes e
  by (origin.Image alias) is e = never_changes e
  by (origin.Copy from snapshot from_pool) is e = copied from snapshot from_pool is (volume_named s.volumes home from_pool from) refl e
