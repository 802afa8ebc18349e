-- No live operation keeps the instances of an operation busy that begins.
use Rattle.std.proofs.Common.{◌≡◌, ◌≢◌, ◌⊎◌, inl, inr, ℕ, Bool, true, false, ◌&&◌, ◌||◌, Option, Some, None, List, refl, sym, ap, subst, ◌∙◌}
use Rattle.std.specs.Str.{bytes_eq}
use Rattle.std.specs.Option.{option_map, option_map_or, is_some}
use Rattle.std.specs.Prelude.{IfSome}
use Rattle.plain_lists.specs.Members.{Mem}
use Rattle.plain_lists.proofs.Searches.{none-find, find-some}
use Rattle.config_lists.proofs.Keys.{same, bytes_eq-itself}
use Rattle.size_values.specs.declared.kinds.Deed.{Deed}
use Rattle.size_values.specs.declared.kinds.Deed.TheVariants as deed
use Rattle.size_values.specs.declared.kinds.ObjectKind.{ObjectKind}
use Rattle.size_values.specs.declared.kinds.ObjectKind.TheVariants as kind
use Rattle.operations.specs.declared.operation.Operation.{Operation}
use Rattle.records.specs.declared.rows.Row.{Row}
use Rattle.records.specs.declared.rows.Row.TheVariants as row
use Rattle.records.specs.declared.rows.Instance.{Instance}
use Rattle.records.specs.declared.rows.Snapshot.{Snapshot}
use Rattle.records.specs.declared.commands.Target.{Target}
use Rattle.row_codec.proofs.Fields.{both_true}
use Rattle.row_machine.specs.machine.Task.{Task}
use Rattle.row_machine.specs.machine.State.{State}
use Rattle.row_machine.specs.machine.Rows.{instance_named, snapshot_named}
use Rattle.row_machine.specs.machine.Claims.{project_of_row}
use Rattle.row_machine.specs.shown.Urls.{target_of}
use Rattle.row_machine.specs.machine.Holders.{busy_with, keeps_busy, is_about}
use Rattle.row_machine.specs.machine.NameRules.{claims_object, same_target, is_there}
use Rattle.row_machine.specs.machine.Plans.{instance_target}
use Rattle.row_machine.specs.facts.Whole.{IsWhole, IsPlaced, IsByDeed, instance_there}
use Rattle.row_machine.specs.machine.Deeds.{has_target, claim_kind, target_kind}
use Rattle.machine_laws.proofs.Cases.{Begins, IsNew, IsIdle}
use Rattle.machine_laws.proofs.Cases.Begins.{creates, copies_instance, copies_snapshot, copies_volume, updates, restores, renames, deletes, acts, snaps, unsnaps}
use Rattle.machine_laws.proofs.Found.{there-is, snapshot-found}

-- ---- a name that is new is no busy instance's

false-true : {X : Type 0} → false ≡ true → X
false-true e = cc

-- an object that is about an instance of this name, and is there, has the instance there
about-there : (s : State) (project name : List ℕ) → IsWhole s → (k : ObjectKind) (pool instance own : List ℕ)
    → is_about name (record { kind = k; pool = pool; instance = instance; name = own }) ≡ true
    → is_there s project (record { kind = k; pool = pool; instance = instance; name = own }) ≡ true → is_some (instance_named s.instances project name) ≡ true
about-there s project name h kind.Instance pool instance own about there =
    subst (λ n. is_some (instance_named s.instances project n) ≡ true) (same own name about) there
about-there s project name h kind.Snapshot pool instance own about there =
    let found = there-is (snapshot_named s.snapshots project instance own) there in
    let r : Snapshot = found.0 in
    let named = snapshot-found s.snapshots project instance own r found.1 in
    let its = h.references.snapshots.at r (find-some _ s.snapshots r found.1).0 in
    subst (λ n. is_some (instance_named s.instances project n) ≡ true) (named.1.0 ∙ same instance name about)
    (subst (λ p. is_some (instance_named s.instances p r.instance) ≡ true) named.0 its)
about-there s project name h kind.Project pool instance own about there = false-true about
about-there s project name h kind.Profile pool instance own about there = false-true about
about-there s project name h kind.Network pool instance own about there = false-true about
about-there s project name h kind.Pool pool instance own about there = false-true about
about-there s project name h kind.Volume pool instance own about there = false-true about
about-there s project name h kind.Operation pool instance own about there = false-true about

-- the same of a target that has its instance
about-instance : (s : State) (project name : List ℕ) → (k : ObjectKind) (pool instance own : List ℕ)
    → is_about name (record { kind = k; pool = pool; instance = instance; name = own }) ≡ true
    → instance_there s project (record { kind = k; pool = pool; instance = instance; name = own }) → is_some (instance_named s.instances project name) ≡ true
about-instance s project name kind.Instance pool instance own about there =
    subst (λ n. is_some (instance_named s.instances project n) ≡ true) (same own name about) there
about-instance s project name kind.Snapshot pool instance own about there =
    subst (λ n. is_some (instance_named s.instances project n) ≡ true) (same instance name about) there
about-instance s project name kind.Project pool instance own about there = false-true about
about-instance s project name kind.Profile pool instance own about there = false-true about
about-instance s project name kind.Network pool instance own about there = false-true about
about-instance s project name kind.Pool pool instance own about there = false-true about
about-instance s project name kind.Volume pool instance own about there = false-true about
about-instance s project name kind.Operation pool instance own about there = false-true about

-- a claim of the instance of this name
claims-it : (s : State) (project name : List ℕ) (task : Task) (r : Row) → task.claim ≡ Some r → project_of_row r ≡ project
    → (target_of r).kind ≡ kind.Instance → (target_of r).name ≡ name → claims_object project (instance_target name) task ≡ true
claims-it s project name task r claimed home of_kind named =
    ap (λ o. option_map_or (λ new. bytes_eq (project_of_row new) project && same_target (target_of new) (instance_target name)) o false) claimed ∙ by r home of_kind named where
      by : (r : Row) → project_of_row r ≡ project → (target_of r).kind ≡ kind.Instance → (target_of r).name ≡ name
          → (bytes_eq (project_of_row r) project && same_target (target_of r) (instance_target name)) ≡ true
      by (row.Instance i) home of_kind named =
          ap (λ p. bytes_eq p project && bytes_eq i.name name) home ∙ ap (λ b. b && bytes_eq i.name name) (bytes_eq-itself project)
          ∙ ap (λ n. bytes_eq n name) named ∙ bytes_eq-itself name
      by (row.Project r) home of_kind named = cc
      by (row.Profile r) home of_kind named = cc
      by (row.Network r) home of_kind named = cc
      by (row.Pool r) home of_kind named = cc
      by (row.Volume r) home of_kind named = cc
      by (row.Snapshot r) home of_kind named = cc

-- what is about an instance of this name, by its kind
about-name : (name : List ℕ) (of : Target) → of.kind ≡ kind.Instance → is_about name of ≡ true → of.name ≡ name
about-name name of of_kind about = same of.name name (by of.kind of_kind about) where
  by : (k : ObjectKind) → k ≡ kind.Instance → is_about name (record of { kind = k }) ≡ true → bytes_eq of.name name ≡ true
  by kind.Instance e about = about
  by kind.Project e about = cc
  by kind.Profile e about = cc
  by kind.Network e about = cc
  by kind.Pool e about = cc
  by kind.Volume e about = cc
  by kind.Snapshot e about = cc
  by kind.Operation e about = cc

about-no_volume : {X : Type 0} (name : List ℕ) (of : Target) → of.kind ≡ kind.Volume → is_about name of ≡ true → X
about-no_volume {X} name of of_kind about = by of.kind of_kind about where
  by : (k : ObjectKind) → k ≡ kind.Volume → is_about name (record of { kind = k }) ≡ true → X
  by kind.Volume e about = false-true about
  by kind.Instance e about = cc
  by kind.Project e about = cc
  by kind.Profile e about = cc
  by kind.Network e about = cc
  by kind.Pool e about = cc
  by kind.Snapshot e about = cc
  by kind.Operation e about = cc

or_either : (a b : Bool) → (a || b) ≡ true → (a ≡ true) ⊎ (b ≡ true)
or_either true b e = inl refl
or_either false b e = inr e

-- a new instance's name is no live operation's, nor its source's
new-apart : (s : State) (project name : List ℕ) → IsWhole s → IsNew s project (instance_target name) → (o : Operation Task) → Mem o s.operations.live
    → keeps_busy project name o.work ≡ true → ⊥
new-apart s project name h new o m e = elim (or_either (is_about name o.work.target) (option_map_or (is_about name) o.work.source false) tests.1) [
  | inl target ↦ by o.work.deed refl target
  | inr source ↦ of_source o.work.source refl source
] where
  tests : (bytes_eq o.work.project project ≡ true) × ((is_about name o.work.target || option_map_or (is_about name) o.work.source false) ≡ true)
  tests = both_true (bytes_eq o.work.project project) _ e

  home : o.work.project ≡ project
  home = same o.work.project project tests.0

  placed : IsPlaced s o.work
  placed = h.references.operations.at o m

  by_deed : IsByDeed o.work
  by_deed = h.operations.deeds.at o m

  free : is_some (instance_named s.instances project name) ≡ true → ⊥
  free there = false-true (sym new.free ∙ there)

  there : has_target o.work.deed ≡ true → is_about name o.work.target ≡ true → ⊥
  there has about =
      free (subst (λ p. is_some (instance_named s.instances p name) ≡ true) home
      (about-instance s o.work.project name o.work.target.kind o.work.target.pool o.work.target.instance o.work.target.name about (placed.target has)))

  claimed : (r : Option Row) → o.work.claim ≡ r → option_map (λ r. (target_of r).kind) r ≡ Some kind.Instance → IfSome r (λ r. target_of r ≡ o.work.target)
      → o.work.target.kind ≡ kind.Instance → is_about name o.work.target ≡ true → ⊥
  claimed None is kinds named of_kind about = cc
  claimed (Some r) is kinds named of_kind about =
      let taken = claims-it s project name o.work r is (placed.claim_project r is ∙ home) (ap (λ (t : Target). t.kind) named ∙ of_kind)
      (ap (λ (t : Target). t.name) named ∙ about-name name o.work.target of_kind about) in
      false-true (sym (new.unclaimed.at o m) ∙ taken)

  creates_it : (d : Deed) → o.work.deed ≡ d → claim_kind d ≡ Some kind.Instance → target_kind d ≡ kind.Instance → d ≢ deed.Rename → is_about name o.work.target ≡ true → ⊥
  creates_it d is kinds of_kind other about =
      claimed o.work.claim refl (by_deed.kind ∙ ap claim_kind is ∙ kinds) (by_deed.named (λ rename. other (sym is ∙ rename))) (by_deed.target ∙ ap target_kind is ∙ of_kind) about

  by : (d : Deed) → o.work.deed ≡ d → is_about name o.work.target ≡ true → ⊥
  by deed.Create is about = creates_it deed.Create is refl refl (λ e. cc) about
  by deed.Copy is about = creates_it deed.Copy is refl refl (λ e. cc) about
  by deed.CopyVolume is about = about-no_volume name o.work.target (by_deed.target ∙ ap target_kind is) about
  by deed.Update is about = there (ap has_target is) about
  by deed.Restore is about = there (ap has_target is) about
  by deed.Rename is about = there (ap has_target is) about
  by deed.Delete is about = there (ap has_target is) about
  by (deed.Act does ephemeral) is about = there (ap has_target is) about
  by deed.Snap is about = there (ap has_target is) about
  by deed.Unsnap is about = there (ap has_target is) about

  of_source : (source : Option Target) → o.work.source ≡ source → option_map_or (is_about name) source false ≡ true → ⊥
  of_source None is about = false-true about
  of_source (Some of) is about =
      free (subst (λ p. is_some (instance_named s.instances p name) ≡ true) home
      (about-there s o.work.project name h of.kind of.pool of.instance of.name about (placed.source of is)))

pub new-idle : (s : State) (project name : List ℕ) → IsWhole s → IsNew s project (instance_target name) → busy_with s project name ≡ None
unfolding busy_with
new-idle s project name h new = none-find (λ o. keeps_busy project name o.work) s.operations.live (record { at = λ o m. at o m (keeps_busy project name o.work) refl }) where
  at : (o : Operation Task) → Mem o s.operations.live → (b : Bool) → keeps_busy project name o.work ≡ b → keeps_busy project name o.work ≡ false
  at o m true e = absurd (new-apart s project name h new o m e)
  at o m false e = e

-- ---- an operation that begins

-- of an instance that is not busy, or about what is no instance
idle-as : {s : State} {project instance : List ℕ} {i : Instance} → IsIdle s i → i.project ≡ project → i.name ≡ instance → busy_with s project instance ≡ None
idle-as {s} {project} {instance} {i} idle p n = ap (λ q. busy_with s q instance) (sym p) ∙ ap (busy_with s i.project) (sym n) ∙ idle.idle

idle-target : (s : State) (project instance : List ℕ) (i : Instance) → IsIdle s i
    → (bytes_eq i.project project && (bytes_eq i.name instance || false)) ≡ true → busy_with s project instance ≡ None
idle-target s project instance i idle e =
    let parts = both_true (bytes_eq i.project project) (bytes_eq i.name instance || false) e in
    elim (or_either (bytes_eq i.name instance) false parts.1) [
      | inl n ↦ idle-as idle (same i.project project parts.0) (same i.name instance n)
      | inr never ↦ false-true never
    ]

pub begins-idle : {s : State} {task : Task} → IsWhole s → Begins s task → (project instance : List ℕ) → keeps_busy project instance task ≡ true
    → busy_with s project instance ≡ None
begins-idle {s} h (creates home name body moment there new profiles early) project instance e =
    let parts = both_true (bytes_eq home project) _ e in
    only parts.0 (elim (or_either (bytes_eq name instance) false parts.1) [ inl n ↦ n | inr never ↦ false-true never ]) where
      only : bytes_eq home project ≡ true → bytes_eq name instance ≡ true → busy_with s project instance ≡ None
      only p n =
          ap (λ q. busy_with s q instance) (sym (same home project p)) ∙ ap (busy_with s home) (sym (same name instance n)) ∙ new-idle s home name h new
begins-idle {s} h (copies_instance name body moment i idle new profiles early) project instance e =
    let parts = both_true (bytes_eq i.project project) _ e in
    let home = same i.project project parts.0 in
    elim (or_either (bytes_eq name instance) (bytes_eq i.name instance) parts.1) [
      | inl n ↦ ap (λ q. busy_with s q instance) (sym home) ∙ ap (busy_with s i.project) (sym (same name instance n)) ∙ new-idle s i.project name h new
      | inr n ↦ idle-as idle home (same i.name instance n)
    ]
begins-idle {s} h (copies_snapshot name body moment i r idle found new profiles early) project instance e =
    let parts = both_true (bytes_eq i.project project) _ e in
    let home = same i.project project parts.0 in
    elim (or_either (bytes_eq name instance) (bytes_eq i.name instance) parts.1) [
      | inl n ↦ ap (λ q. busy_with s q instance) (sym home) ∙ ap (busy_with s i.project) (sym (same name instance n)) ∙ new-idle s i.project name h new
      | inr n ↦ idle-as idle home (same i.name instance n)
    ]
begins-idle h (copies_volume pool name body moment v home found from_pool to_pool new early) project instance e =
    false-true (both_true (bytes_eq v.project project) _ e).1
begins-idle {s} h (updates old i idle alike) project instance e = idle-target s project instance old idle e
begins-idle {s} h (restores i r idle allowed found) project instance e = idle-target s project instance i idle e
begins-idle {s} h (renames i to idle allowed new) project instance e = idle-target s project instance i idle e
begins-idle {s} h (deletes i idle allowed) project instance e = idle-target s project instance i idle e
begins-idle {s} h (acts does i idle allowed) project instance e = idle-target s project instance i idle e
begins-idle {s} h (snaps name moment i idle allowed new early) project instance e = idle-target s project instance i idle e
begins-idle {s} h (unsnaps i r idle found) project instance e = idle-target s project instance i idle e
