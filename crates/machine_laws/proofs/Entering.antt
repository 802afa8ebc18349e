-- Operations on instances that are there: update, rename, deletion, change of state, restore, and their snapshots.
use Rattle.std.proofs.Common.{◌≡◌, ℕ, true, false, ◌&&◌, Option, Some, None, List, [], refl, sym, ap, subst, ◌∙◌}
use Rattle.std.specs.Prelude.{IfSome}
use Rattle.std.specs.Option.{option_map, option_and_then}
use Rattle.plain_lists.proofs.FirstLemmas.{told_unless, not_mapped}
use Rattle.size_values.specs.declared.kinds.Action.{Action}
use Rattle.size_values.specs.declared.kinds.Deed.{Deed}
use Rattle.size_values.specs.declared.kinds.Deed.TheVariants as deed
use Rattle.size_values.specs.declared.kinds.Power.{Power}
use Rattle.size_values.specs.declared.kinds.ObjectKind.{ObjectKind}
use Rattle.size_values.specs.declared.kinds.ObjectKind.TheVariants as kind
use Rattle.instance_states.specs.States.{is_allowed}
use Rattle.records.specs.Forms.{is_empty, is_change}
use Rattle.records.specs.declared.commands.Body.{Body}
use Rattle.records.specs.declared.commands.What.{What}
use Rattle.records.specs.declared.commands.What.TheVariants as what
use Rattle.records.specs.declared.commands.Target.{Target}
use Rattle.records.specs.declared.rows.Instance.{Instance}
use Rattle.records.specs.declared.rows.Snapshot.{Snapshot}
use Rattle.records.specs.declared.rows.Row.TheVariants as row
use Rattle.row_codec.proofs.Fields.{both_true}
use Rattle.row_machine.specs.machine.Task.{Task}
use Rattle.row_machine.specs.machine.State.{State}
use Rattle.row_machine.specs.machine.Rows.{instance_named, snapshot_named}
use Rattle.row_machine.specs.machine.Homes.{home_of}
use Rattle.row_machine.specs.machine.StandingRules.{power_of, wrong_state, in_wrong_state, deed_asked, instance_busy}
use Rattle.row_machine.specs.machine.NewRows.{put_instance}
use Rattle.row_machine.specs.machine.Plans.{starts, plan_of, plan_put, plan_move, plan_delete, plan_restore, if_there, instance_target, snapshot_target}
use Rattle.row_machine.specs.machine.Tasks.{update_task, restore_task, rename_task, deletion_task, snapshot_deletion, act_task}
use Rattle.machine_laws.proofs.Cases.{IsAccepted, Begins, IsNew, IsSameInstance, Allows}
use Rattle.machine_laws.proofs.Cases.Begins.{updates, restores, renames, deletes, acts, unsnaps}
use Rattle.machine_laws.proofs.Found.{there-is, instance-found, snapshot-found}
use Rattle.machine_laws.proofs.Commands.{command_of, target, starts-are, nothing_begins, no-parts, change-profiles, profiles-or, idle-found, accepted-names, accepted-way}
use Rattle.machine_laws.proofs.Told.{IsWayFree, empty-is, name-new, new-plain, project-there}
use Rattle.machine_laws.proofs.Speaking.{about-put, about-move, about-delete, its-project, it-is_there, it-is_idle}

-- ---- a status that allows the deed

allows : (does : Deed) (name : List ℕ) (o : Option Power) → option_and_then (in_wrong_state does name) o ≡ None → IfSome o (λ power. is_allowed does power ≡ true)
allows does name None e = tt
allows does name (Some power) e = told_unless _ _ e

pub status-allows : {s : State} {project : List ℕ} {expects : Option (List ℕ)} {w : What} (does : Deed) (name : List ℕ) (i : Instance) → IsWayFree s (command_of project expects w)
    → deed_asked w ≡ Some (does, name) → instance_named s.instances project name ≡ Some i → Allows s does i
unfolding wrong_state
status-allows {s} {project} {expects} {w} does name i way is found =
    let named = instance-found s.instances project name i found in
    let judges : (o : Option (Deed × List ℕ)) → Option _ = λ o. option_and_then (λ (a : Deed × List ℕ). option_and_then (in_wrong_state a.0 a.1) (power_of s project a.1)) o in
    let allowed = allows does name (power_of s project name) (ap judges (sym is) ∙ way.state) in
    subst (λ p. IfSome (power_of s p i.name) (λ power. is_allowed does power ≡ true)) (sym named.0)
    (subst (λ n. IfSome (power_of s project n) (λ power. is_allowed does power ≡ true)) (sym named.1) allowed)

-- ---- targets by their parts

pub plain-target : (k : ObjectKind) {pool instance name other : List ℕ} → pool ≡ [] → instance ≡ [] → other ≡ name → target k [] [] other ≡ target k pool instance name
plain-target k {pool} {instance} {name} {other} p i n =
    ap (λ x. target k x [] other) (sym p) ∙ ap (λ x. target k pool x other) (sym i) ∙ ap (λ x. target k pool instance x) n

pub snapshot-parts : {pool instance name other_instance other : List ℕ} → pool ≡ [] → other_instance ≡ instance → other ≡ name
    → snapshot_target other_instance other ≡ target kind.Snapshot pool instance name
snapshot-parts {pool} {instance} {name} {other_instance} {other} p i n =
    ap (λ x. target kind.Snapshot x other_instance other) (sym p) ∙ ap (λ x. target kind.Snapshot pool x other) i ∙ ap (λ x. target kind.Snapshot pool instance x) n

-- ---- PUT

pub updates-instance : {expects : Option (List ℕ)} (s : State) (project pool instance name : List ℕ) (body : Body) (moment : ℕ) (task : Task)
    → IsAccepted s (command_of project expects (what.Put (target kind.Instance pool instance name) body)) moment (starts task) → Begins s task
unfolding plan_of
updates-instance s project pool instance name body moment task h = by (instance_named s.instances project name) refl h.plan where
  of : Target
  of = target kind.Instance pool instance name

  by : (o : Option Instance) → instance_named s.instances project name ≡ o → if_there (plan_put s project of body) (option_map row.Instance o) ≡ starts task → Begins s task
  by None is e = nothing_begins e
  by (Some i) is e =
      let named = instance-found s.instances project name i is in
      let about = about-put of body in
      let idle = idle-found s project name i is (its-project about (accepted-names h) refl) (it-is_idle name about (accepted-way h) refl) in
      let forms = both_true (is_empty pool && is_empty instance) (is_change kind.Instance body) h.formed in
      let empty = no-parts pool instance forms.0 in
      let new = put_instance i body in
      let same : IsSameInstance i new = record {
        project = refl;
        name = refl;
        kind = refl;
        created = refl;
        profiles = profiles-or body.profiles [] (change-profiles kind.Instance body forms.1) refl;
      } in
      subst (Begins s)
      (ap (λ p. update_task s p (instance_target i.name) new) named.0 ∙ ap (λ t. update_task s project t new) (plain-target kind.Instance empty.0 empty.1 named.1) ∙ starts-are e)
      (updates i new idle same)

-- ---- renames

pub renames-instance : {expects : Option (List ℕ)} (s : State) (project pool instance name to : List ℕ) (moment : ℕ) (task : Task)
    → IsAccepted s (command_of project expects (what.Move (target kind.Instance pool instance name) to)) moment (starts task) → Begins s task
unfolding plan_of home_of
renames-instance s project pool instance name to moment task h = by (instance_named s.instances project name) refl h.plan where
  of : Target
  of = target kind.Instance pool instance name

  by : (o : Option Instance) → instance_named s.instances project name ≡ o → if_there (plan_move s project of to) (option_map row.Instance o) ≡ starts task → Begins s task
  by None is e = nothing_begins e
  by (Some i) is e =
      let named = instance-found s.instances project name i is in
      let about = about-move of to in
      let names = accepted-names h in
      let idle = idle-found s project name i is (its-project about names refl) (it-is_idle name about (accepted-way h) refl) in
      let empty = no-parts pool instance h.formed in
      let new : IsNew s project (instance_target to) = new-plain empty.0 empty.1 (name-new s project (target kind.Instance pool instance to) names.name) in
      subst (Begins s)
      (ap (λ p. rename_task p (instance_target i.name) to i) named.0 ∙ ap (λ t. rename_task project t to i) (plain-target kind.Instance empty.0 empty.1 named.1) ∙ starts-are e)
      (renames i to idle (status-allows deed.Rename name i (accepted-way h) refl is) (subst (λ p. IsNew s p (instance_target to)) (sym named.0) new))

-- ---- deletions

pub deletes-instance : {expects : Option (List ℕ)} (s : State) (project pool instance name : List ℕ) (moment : ℕ) (task : Task)
    → IsAccepted s (command_of project expects (what.Delete (target kind.Instance pool instance name))) moment (starts task) → Begins s task
unfolding plan_of
deletes-instance s project pool instance name moment task h = by (instance_named s.instances project name) refl h.plan where
  of : Target
  of = target kind.Instance pool instance name

  by : (o : Option Instance) → instance_named s.instances project name ≡ o → if_there (plan_delete s project of) (option_map row.Instance o) ≡ starts task → Begins s task
  by None is e = nothing_begins e
  by (Some i) is e =
      let named = instance-found s.instances project name i is in
      let about = about-delete of in
      let idle = idle-found s project name i is (its-project about (accepted-names h) refl) (it-is_idle name about (accepted-way h) refl) in
      let empty = no-parts pool instance h.formed in
      subst (Begins s)
      (ap (λ p. deletion_task p (instance_target i.name)) named.0 ∙ ap (deletion_task project) (plain-target kind.Instance empty.0 empty.1 named.1) ∙ starts-are e)
      (deletes i idle (status-allows deed.Delete name i (accepted-way h) refl is))

pub deletes-snapshot : {expects : Option (List ℕ)} (s : State) (project pool instance name : List ℕ) (moment : ℕ) (task : Task)
    → IsAccepted s (command_of project expects (what.Delete (target kind.Snapshot pool instance name))) moment (starts task) → Begins s task
unfolding plan_of
deletes-snapshot s project pool instance name moment task h = by (snapshot_named s.snapshots project instance name) refl h.plan where
  of : Target
  of = target kind.Snapshot pool instance name

  by : (o : Option Snapshot) → snapshot_named s.snapshots project instance name ≡ o → if_there (plan_delete s project of) (option_map row.Snapshot o) ≡ starts task → Begins s task
  by None is e = nothing_begins e
  by (Some r) is e =
      let about = about-delete of in
      let names = accepted-names h in
      let found = there-is (instance_named s.instances project instance) (told_unless _ _ (it-is_there about names).0) in
      let i : Instance = found.0 in
      let named = instance-found s.instances project instance i found.1 in
      let row_named = snapshot-found s.snapshots project instance name r is in
      let idle = idle-found s project instance i found.1 (its-project about names refl) (it-is_idle instance about (accepted-way h) refl) in
      subst (Begins s)
      (ap (λ p. snapshot_deletion p (snapshot_target i.name r.name)) named.0
      ∙ ap (snapshot_deletion project) (snapshot-parts (empty-is pool h.formed) named.1 row_named.1.1) ∙ starts-are e)
      (unsnaps i r idle
      (ap (λ p. snapshot_named s.snapshots p i.name r.name) named.0 ∙ ap (λ n. snapshot_named s.snapshots project n r.name) named.1
      ∙ ap (snapshot_named s.snapshots project instance) row_named.1.1 ∙ is))

-- ---- changes of state, and restores

-- both speak of an instance by its name
pub acts-on : {expects : Option (List ℕ)} (s : State) (project pool instance name : List ℕ) (action : Action) (moment : ℕ) (task : Task)
    → IsAccepted s (command_of project expects (what.Act (target kind.Instance pool instance name) action)) moment (starts task) → Begins s task
unfolding plan_of instance_busy
acts-on s project pool instance name action moment task h = by (instance_named s.instances project name) refl h.plan where
  of : Target
  of = target kind.Instance pool instance name

  by : (o : Option Instance) → instance_named s.instances project name ≡ o → if_there (λ i. starts (act_task s project of action i)) o ≡ starts task → Begins s task
  by None is e = nothing_begins e
  by (Some i) is e =
      let named = instance-found s.instances project name i is in
      let there = project-there s _ of refl refl (accepted-names h).project in
      let idle = idle-found s project name i is there (not_mapped _ _ (accepted-way h).idle) in
      let empty = no-parts pool instance h.formed in
      subst (Begins s)
      (ap (λ p. act_task s p (instance_target i.name) action i) named.0 ∙ ap (λ t. act_task s project t action i) (plain-target kind.Instance empty.0 empty.1 named.1) ∙ starts-are e)
      (acts action i idle (status-allows (deed.Act action false) name i (accepted-way h) refl is))

pub restores-to : {expects : Option (List ℕ)} (s : State) (project pool instance name snapshot : List ℕ) (moment : ℕ) (task : Task)
    → IsAccepted s (command_of project expects (what.Restore (target kind.Instance pool instance name) snapshot)) moment (starts task) → Begins s task
unfolding plan_of instance_busy
restores-to s project pool instance name snapshot moment task h = by (instance_named s.instances project name) refl h.plan where
  of : Target
  of = target kind.Instance pool instance name

  and_row : (i : Instance) → instance_named s.instances project name ≡ Some i → (o : Option Snapshot) → snapshot_named s.snapshots project name snapshot ≡ o
      → if_there (λ r. starts (restore_task project of i r)) o ≡ starts task → Begins s task
  and_row i is None found e = nothing_begins e
  and_row i is (Some r) found e =
      let named = instance-found s.instances project name i is in
      let row_named = snapshot-found s.snapshots project name snapshot r found in
      let there = project-there s _ of refl refl (accepted-names h).project in
      let idle = idle-found s project name i is there (not_mapped _ _ (accepted-way h).idle) in
      let empty = no-parts pool instance h.formed in
      subst (Begins s)
      (ap (λ p. restore_task p (instance_target i.name) i r) named.0 ∙ ap (λ t. restore_task project t i r) (plain-target kind.Instance empty.0 empty.1 named.1) ∙ starts-are e)
      (restores i r idle (status-allows deed.Restore name i (accepted-way h) refl is)
      (ap (λ p. snapshot_named s.snapshots p i.name r.name) named.0 ∙ ap (λ n. snapshot_named s.snapshots project n r.name) named.1
      ∙ ap (snapshot_named s.snapshots project name) row_named.1.1 ∙ found))

  by : (o : Option Instance) → instance_named s.instances project name ≡ o → if_there (plan_restore s project of snapshot) o ≡ starts task → Begins s task
  by None is e = nothing_begins e
  by (Some i) is e = and_row i is (snapshot_named s.snapshots project name snapshot) refl e
