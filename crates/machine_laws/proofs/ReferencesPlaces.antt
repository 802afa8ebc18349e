-- A live operation stands where it stood as long as what it is about stays.
use Rattle.std.proofs.Common.{◌≡◌, ◌≢◌, ℕ, Bool, true, false, cond, ◌||◌, Some, None, List, refl, sym, ◌∙◌, ap, subst}
use Rattle.std.specs.Prelude.{IfSome}
use Rattle.std.specs.Option.{option_map, option_map_or, option_and_then, is_some}
use Rattle.std.specs.Str.{bytes_eq}
use Rattle.std.proofs.lemmas.Bool.{and_from}
use Rattle.config_lists.proofs.Keys.{bytes_eq-itself}
use Rattle.size_values.specs.declared.kinds.Deed.{Deed}
use Rattle.size_values.specs.declared.kinds.Deed.TheVariants as deed
use Rattle.size_values.specs.declared.kinds.ObjectKind.{ObjectKind}
use Rattle.size_values.specs.declared.kinds.ObjectKind.TheVariants as kind
use Rattle.records.specs.declared.rows.Volume.{Volume}
use Rattle.records.specs.declared.rows.Row.{Row}
use Rattle.records.specs.declared.rows.Row.TheVariants as row
use Rattle.records.specs.declared.commands.Target.{Target}
use Rattle.row_machine.specs.machine.Task.{Task}
use Rattle.row_machine.specs.machine.State.{State}
use Rattle.row_machine.specs.machine.Rows.{pool_named, volume_named, instance_named, snapshot_named}
use Rattle.row_machine.specs.machine.Homes.{home_of}
use Rattle.row_machine.specs.machine.Claims.{claimed_volume, replaced_instance}
use Rattle.row_machine.specs.shown.Urls.{target_of}
use Rattle.row_machine.specs.machine.Holders.{is_about, keeps_busy}
use Rattle.row_machine.specs.machine.NameRules.{is_there}
use Rattle.row_machine.specs.facts.Whole.{instance_there, IsRenamed, IsPlaced, IsByDeed}
use Rattle.row_machine.specs.machine.Deeds.{has_target, has_source, replaces_target, target_kind, claim_kind}
use Rattle.machine_laws.proofs.ReferencesHomes.{StaysHome, homeless-stays}

-- What a live operation is about in s stays in t: its project, the instances that it keeps busy, the snapshot or the volume
-- that is its source, and the pool of the volume that it claims.
pub record Leaves (s t : State) (task : Task) : Type 0 where
  pub project : StaysHome s.projects t.projects task.project
  pub instances : (name : List ℕ) → keeps_busy task.project name task ≡ true
      → is_some (instance_named s.instances task.project name) ≡ true
      → instance_named t.instances task.project name ≡ instance_named s.instances task.project name
  pub snapshots : (instance name : List ℕ) → keeps_busy task.project instance task ≡ true
      → is_some (snapshot_named s.snapshots task.project instance name) ≡ true
      → is_some (snapshot_named t.snapshots task.project instance name) ≡ true
  pub volumes : (of : Target) → task.source ≡ Some of → of.kind ≡ kind.Volume
      → is_some (volume_named s.volumes (home_of s.projects task.project kind.Volume) of.pool of.name) ≡ true
      → is_some (volume_named t.volumes (home_of t.projects task.project kind.Volume) of.pool of.name) ≡ true
  pub pools : (v : Volume) → claimed_volume task ≡ Some v → is_some (pool_named s.pools v.pool) ≡ true
      → is_some (pool_named t.pools v.pool) ≡ true

-- ---- what is kept busy

busy_as : (task : Task) (name : List ℕ)
    → (is_about name task.target || option_map_or (is_about name) task.source false) ≡ true
    → keeps_busy task.project name task ≡ true
busy_as task name about = and_from _ _ (bytes_eq-itself task.project) about

or_left : (a b : Bool) → a ≡ true → (a || b) ≡ true
or_left a b e = ap (λ x. x || b) e

or_right : (a b : Bool) → b ≡ true → (a || b) ≡ true
or_right true b e = refl
or_right false b e = e

pub busy-target : (task : Task) (name : List ℕ) → is_about name task.target ≡ true
    → keeps_busy task.project name task ≡ true
busy-target task name about = busy_as task name (or_left _ _ about)

pub busy-source : (task : Task) (of : Target) (name : List ℕ) → task.source ≡ Some of → is_about name of ≡ true
    → keeps_busy task.project name task ≡ true
busy-source task of name is about =
    busy_as task name (or_right _ _ (ap (λ o. option_map_or (is_about name) o false) is ∙ about))

-- the instance of a target, by the kind of the target
abbrev there_by : State → List ℕ → Target → ObjectKind → Type 0
there_by s project of kind.Instance = is_some (instance_named s.instances project of.name) ≡ true
there_by s project of kind.Snapshot = is_some (instance_named s.instances project of.instance) ≡ true
there_by s project of other = ⊥

abbrev about_by : List ℕ → Target → ObjectKind → Bool
about_by instance of kind.Instance = bytes_eq of.name instance
about_by instance of kind.Snapshot = bytes_eq of.instance instance
about_by instance of other = false

there-kept : (s t : State) (task : Task) (of : Target) → Leaves s t task
    → ((name : List ℕ) → is_about name of ≡ true → keeps_busy task.project name task ≡ true)
    → instance_there s task.project of → instance_there t task.project of
there-kept s t task of h busy = at of.kind busy where
  kept : (name : List ℕ) → keeps_busy task.project name task ≡ true
      → is_some (instance_named s.instances task.project name) ≡ true
      → is_some (instance_named t.instances task.project name) ≡ true
  kept name is_busy there = ap is_some (h.instances name is_busy there) ∙ there

  at : (k : ObjectKind) → ((name : List ℕ) → about_by name of k ≡ true → keeps_busy task.project name task ≡ true)
      → there_by s task.project of k → there_by t task.project of k
  at kind.Instance busy there = kept of.name (busy of.name (bytes_eq-itself of.name)) there
  at kind.Snapshot busy there = kept of.instance (busy of.instance (bytes_eq-itself of.instance)) there
  at kind.Project busy there = there
  at kind.Profile busy there = there
  at kind.Network busy there = there
  at kind.Pool busy there = there
  at kind.Volume busy there = there
  at kind.Operation busy there = there

-- ---- sources

-- what an operation may be made from
abbrev is_source : ObjectKind → Bool
is_source kind.Instance = true
is_source kind.Snapshot = true
is_source kind.Volume = true
is_source other = false

from_some : (of : Target) (d : Deed) → has_source d (Some of) ≡ true → is_source of.kind ≡ true
from_some of d h = at of.kind d h where
  at : (k : ObjectKind) (d : Deed) → has_source d (Some (record of { kind = k })) ≡ true → is_source k ≡ true
  at kind.Instance d e = refl
  at kind.Snapshot d e = refl
  at kind.Volume d e = refl
  at k deed.Create e = cc
  at k deed.Update e = cc
  at k deed.Restore e = cc
  at k deed.Rename e = cc
  at k deed.Delete e = cc
  at k (deed.Act does ephemeral) e = cc
  at k deed.Snap e = cc
  at k deed.Unsnap e = cc
  at kind.Project deed.Copy e = cc
  at kind.Profile deed.Copy e = cc
  at kind.Network deed.Copy e = cc
  at kind.Pool deed.Copy e = cc
  at kind.Operation deed.Copy e = cc
  at kind.Project deed.CopyVolume e = cc
  at kind.Profile deed.CopyVolume e = cc
  at kind.Network deed.CopyVolume e = cc
  at kind.Pool deed.CopyVolume e = cc
  at kind.Operation deed.CopyVolume e = cc

source-kept : (s t : State) (task : Task) (of : Target) → Leaves s t task → IsByDeed task → task.source ≡ Some of
    → is_there s task.project of ≡ true → is_there t task.project of ≡ true
source-kept s t task of h by is there =
    at of.kind refl (from_some of task.deed (ap (has_source task.deed) (sym is) ∙ by.source)) there where
      busy : (name : List ℕ) → is_about name of ≡ true → keeps_busy task.project name task ≡ true
      busy name about = busy-source task of name is about

      about_as : (name : List ℕ) (k : ObjectKind) → of.kind ≡ k → is_about name (record of { kind = k }) ≡ true
          → is_about name of ≡ true
      about_as name k same about = subst (λ x. is_about name (record of { kind = x }) ≡ true) (sym same) about

      at : (k : ObjectKind) → of.kind ≡ k → is_source k ≡ true → is_there s task.project (record of { kind = k }) ≡ true
          → is_there t task.project (record of { kind = k }) ≡ true
      at kind.Instance same e there =
          ap is_some
          (h.instances of.name (busy of.name (about_as of.name kind.Instance same (bytes_eq-itself of.name))) there) ∙
          there
      at kind.Snapshot same e there =
          h.snapshots of.instance of.name
          (busy of.instance (about_as of.instance kind.Snapshot same (bytes_eq-itself of.instance))) there
      at kind.Volume same e there = h.volumes of is same there
      at kind.Project same e there = cc
      at kind.Profile same e there = cc
      at kind.Network same e there = cc
      at kind.Pool same e there = cc
      at kind.Operation same e there = cc

-- ---- claims

pool-kept : (s t : State) (task : Task) → Leaves s t task → (r : Row) → task.claim ≡ Some r
    → (target_of r).kind ≡ kind.Volume
    → is_some (pool_named s.pools (target_of r).pool) ≡ true → is_some (pool_named t.pools (target_of r).pool) ≡ true
pool-kept s t task h (row.Volume v) is same there =
    h.pools v (ap (λ c. claimed_volume (record task { claim = c })) is) there
pool-kept s t task h (row.Project r) is same there = cc
pool-kept s t task h (row.Profile r) is same there = cc
pool-kept s t task h (row.Network r) is same there = cc
pool-kept s t task h (row.Pool r) is same there = cc
pool-kept s t task h (row.Instance r) is same there = cc
pool-kept s t task h (row.Snapshot r) is same there = cc

-- a snapshot is claimed under the name of the target
pub snapshot-target : (task : Task) → IsByDeed task → (r : Row) → task.claim ≡ Some r
    → (target_of r).kind ≡ kind.Snapshot → target_of r ≡ task.target
snapshot-target task by r is same =
    subst (λ c. IfSome c (λ x. target_of x ≡ task.target)) is (by.named not_rename) where
      not_rename : task.deed ≢ deed.Rename
      not_rename e =
          let claimed : option_map (λ x. (target_of x).kind) task.claim ≡ Some kind.Instance = by.kind ∙ ap claim_kind e in
          let kinds : Some kind.Snapshot ≡ Some kind.Instance = ap Some (sym same) ∙ sym (ap (option_map (λ x. (target_of x).kind)) is) ∙ claimed in
          cc

-- ---- a rename

-- the target of a deed on an instance is there
target_instance : (s : State) (task : Task) → task.target.kind ≡ kind.Instance
    → instance_there s task.project task.target
    → is_some (instance_named s.instances task.project task.target.name) ≡ true
target_instance s task same there = subst (there_by s task.project task.target) same there

renamed-kept : (s t : State) (task : Task) → Leaves s t task → IsByDeed task → IsPlaced s task → IsRenamed t task
renamed-kept s t task h by p = at task.deed refl p.renamed where
  same_row : task.deed ≡ deed.Rename → replaced_instance t task ≡ replaced_instance s task
  same_row e =
      let names : task.replaces ≡ Some (task.project, task.target.name) = by.replaces ∙ ap (λ d. cond (replaces_target d) (Some (task.project, task.target.name)) None) e in
      let is_instance : task.target.kind ≡ kind.Instance = by.target ∙ ap target_kind e in
      let there = target_instance s task is_instance (p.target (ap has_target e)) in
      let busy = busy-target task task.target.name (subst (λ k. about_by task.target.name task.target k ≡ true) (sym is_instance) (bytes_eq-itself task.target.name)) in
      ap (λ o. option_and_then (λ (n : List ℕ × List ℕ). instance_named t.instances n.0 n.1) o) names
      ∙ h.instances task.target.name busy there
      ∙ ap (λ o. option_and_then (λ (n : List ℕ × List ℕ). instance_named s.instances n.0 n.1) o) (sym names)

  at : (d : Deed) → task.deed ≡ d → IsRenamed s (record task { deed = d }) → IsRenamed t (record task { deed = d })
  at deed.Rename e r = r ∙ sym (same_row e)
  at deed.Create e r = r
  at deed.Copy e r = r
  at deed.Update e r = r
  at deed.Restore e r = r
  at deed.Delete e r = r
  at (deed.Act does ephemeral) e r = r
  at deed.Snap e r = r
  at deed.Unsnap e r = r
  at deed.CopyVolume e r = r

-- A live operation stands as it stood where what it is about stays.
pub placed-stays : {s t : State} {task : Task} → IsByDeed task → Leaves s t task → IsPlaced s task → IsPlaced t task
placed-stays {s} {t} {task} by h p = record {
  project = h.project.there p.project;
  target = λ has. there-kept s t task task.target h (busy-target task) (p.target has);
  source = λ of is. source-kept s t task of h by is (p.source of is);
  claim_project = p.claim_project;
  claim_home =
      λ r is. homeless-stays s t r (subst (StaysHome s.projects t.projects) (sym (p.claim_project r is)) h.project)
      (p.claim_home r is);
  pool = λ r is same. pool-kept s t task h r is same (p.pool r is same);
  instance = λ r is same. there-kept s t task (target_of r) h
      (λ name about. busy-target task name (ap (is_about name) (sym (snapshot-target task by r is same)) ∙ about))
      (p.instance r is same);
  renamed = renamed-kept s t task h by p;
}
