-- What leaves projects and profiles leaves the defaults: all steps of operations, and their ends.
use Rattle.std.proofs.Common.{◌≡◌, ℕ, Bool, true, false, Option, Some, None, List, [], ◌∷◌, ◌++◌, map, refl, sym, ap, ◌∙◌, subst}
use Rattle.std.specs.Option.{option_map, option_map_or, option_to_list}
use Rattle.plain_lists.specs.Members.{Each}
use Rattle.plain_lists.proofs.Elements.{Each-none, Each-cons, Each-head, Each-tail, Each-append}
use Rattle.size_values.specs.declared.kinds.Action.{Action}
use Rattle.size_values.specs.declared.kinds.Action.TheVariants as action
use Rattle.size_values.specs.declared.kinds.Deed.{Deed}
use Rattle.size_values.specs.declared.kinds.Deed.TheVariants as deed
use Rattle.size_values.specs.declared.kinds.ObjectKind.{ObjectKind}
use Rattle.size_values.specs.declared.kinds.ObjectKind.TheVariants as kind
use Rattle.size_values.specs.declared.kinds.Power.{Power}
use Rattle.operations.specs.declared.operation.Operation.{Operation}
use Rattle.operations.specs.declared.operation.OpFault.{OpFault}
use Rattle.records.specs.declared.rows.Instance.{Instance}
use Rattle.records.specs.declared.rows.Snapshot.{Snapshot}
use Rattle.records.specs.declared.rows.Row.{Row}
use Rattle.records.specs.declared.rows.Row.TheVariants as row
use Rattle.records.specs.declared.notices.Untold.{Untold}
use Rattle.row_machine.specs.declared.changes.RowChange.{RowChange}
use Rattle.row_machine.specs.declared.changes.RowChange.TheVariants as change
use Rattle.row_machine.specs.machine.Task.{Task}
use Rattle.row_machine.specs.machine.State.{State}
use Rattle.row_machine.specs.machine.Rows.{instance_named, snapshot_named}
use Rattle.row_machine.specs.machine.Claims.{claimed_instance}
use Rattle.row_machine.specs.machine.Changes.{applied, changed, removal}
use Rattle.row_machine.specs.machine.Asked.{snapshots_of}
use Rattle.row_machine.specs.shown.Urls.{target_of}
use Rattle.row_machine.specs.shown.Notices.{telling}
use Rattle.row_machine.specs.machine.Operations.{entered, cancelled, failed, succeeded, success_changes, removes_instance, renames_instance, with_power_after, power_after}
use Rattle.row_machine.specs.facts.Whole.{HasDefaults, IsByDeed}
use Rattle.row_machine.specs.machine.Deeds.{claim_kind}
use Rattle.machine_laws.proofs.ReferencesOperations.{failure_core, telling_core}

pub defaults-same : {s t : State} → t.projects ≡ s.projects → t.profiles ≡ s.profiles → HasDefaults s → HasDefaults t
defaults-same {s} {t} ps rs h =
    last (subst HasDefaults (λ i. record s { projects = sym ps i; profiles = sym rs i }) h) where
      last : HasDefaults (record s { projects = t.projects; profiles = t.profiles }) → HasDefaults t
      last h = record { project = h.project; profiles = h.profiles }

-- ---- steps of operations

pub entered-defaults : (s : State) (task : Task) (moment : ℕ) → HasDefaults s → HasDefaults (entered s task moment)
unfolding entered
entered-defaults s task moment h = defaults-same refl refl h

pub cancelled-defaults : (s : State) (number moment : ℕ) → HasDefaults s → HasDefaults (cancelled s number moment)
unfolding cancelled
cancelled-defaults s number moment h = defaults-same refl refl h

pub failed-defaults : (s : State) (o : Operation Task) (why : OpFault) (done moment : ℕ) → HasDefaults s
    → HasDefaults (failed s o why done moment)
unfolding failed
failed-defaults s o why done moment h = defaults-same
    (ap (λ (x : State). x.projects) (failure_core o.work done s))
    (ap (λ (x : State). x.profiles) (failure_core o.work done s))
    h

pub telling-defaults : (notices : List Untold) (s : State) → HasDefaults s → HasDefaults (telling notices s)
telling-defaults notices s h = defaults-same
    (ap (λ (x : State). x.projects) (telling_core notices s))
    (ap (λ (x : State). x.profiles) (telling_core notices s))
    h

-- ---- changes of rows that leave projects and profiles

-- a change of another kind of row
abbrev pub IsAside : RowChange → Type 0
IsAside (change.Put (row.Project r)) = ⊥
IsAside (change.Put (row.Profile r)) = ⊥
IsAside (change.Remove kind.Project key) = ⊥
IsAside (change.Remove kind.Profile key) = ⊥
IsAside other = Unit {0}

changed-aside : (s : State) (c : RowChange) → IsAside c
    → ((changed s c).projects ≡ s.projects) × ((changed s c).profiles ≡ s.profiles)
changed-aside s (change.Put (row.Project r)) aside = absurd aside
changed-aside s (change.Put (row.Profile r)) aside = absurd aside
changed-aside s (change.Put (row.Network r)) aside = (refl, refl)
changed-aside s (change.Put (row.Pool r)) aside = (refl, refl)
changed-aside s (change.Put (row.Volume r)) aside = (refl, refl)
changed-aside s (change.Put (row.Instance r)) aside = (refl, refl)
changed-aside s (change.Put (row.Snapshot r)) aside = (refl, refl)
changed-aside s (change.Remove kind.Project key) aside = absurd aside
changed-aside s (change.Remove kind.Profile key) aside = absurd aside
changed-aside s (change.Remove kind.Network key) aside = (refl, refl)
changed-aside s (change.Remove kind.Pool key) aside = (refl, refl)
changed-aside s (change.Remove kind.Volume key) aside = (refl, refl)
changed-aside s (change.Remove kind.Instance key) aside = (refl, refl)
changed-aside s (change.Remove kind.Snapshot key) aside = (refl, refl)
changed-aside s (change.Remove kind.Operation key) aside = (refl, refl)

pub applied-aside : (s : State) (cs : List RowChange) → Each IsAside cs
    → ((applied s cs).projects ≡ s.projects) × ((applied s cs).profiles ≡ s.profiles)
applied-aside s [] e = (refl, refl)
applied-aside s (c ∷ cs) e =
    let first = changed-aside s c (Each-head e) in
    let rest = applied-aside (changed s c) cs (Each-tail e) in
    (rest.0 ∙ first.0, rest.1 ∙ first.1)

-- ---- successes

snapshots_aside : (rs : List Snapshot) → Each IsAside (map removal (map row.Snapshot rs))
snapshots_aside [] = Each-none
snapshots_aside (r ∷ rs) = Each-cons IsAside tt (snapshots_aside rs)

removes_aside : (rs : List Snapshot) (o : Option Instance)
    → Each IsAside (map removal (map row.Snapshot rs ++ map row.Instance (option_to_list o)))
removes_aside [] None = Each-none
removes_aside [] (Some i) = Each-cons IsAside tt Each-none
removes_aside (r ∷ rs) o = Each-cons IsAside tt (removes_aside rs o)

puts_aside : (i : Instance) (rs : List Snapshot)
    → Each IsAside (map change.Put (map (λ (r : Snapshot). row.Snapshot (record r { instance = i.name; project = i.project })) rs))
puts_aside i [] = Each-none
puts_aside i (r ∷ rs) = Each-cons IsAside tt (puts_aside i rs)

-- the kinds of what operations claim
abbrev is_claimed : Option ObjectKind → Type 0
is_claimed None = Unit {0}
is_claimed (Some kind.Instance) = Unit {0}
is_claimed (Some kind.Snapshot) = Unit {0}
is_claimed (Some kind.Volume) = Unit {0}
is_claimed (Some other) = ⊥

claim_aside : (o : Option Row) → is_claimed (option_map (λ r. (target_of r).kind) o)
    → Each IsAside (map change.Put (option_to_list o))
claim_aside None is = Each-none
claim_aside (Some (row.Project r)) is = absurd is
claim_aside (Some (row.Profile r)) is = absurd is
claim_aside (Some (row.Network r)) is = absurd is
claim_aside (Some (row.Pool r)) is = absurd is
claim_aside (Some (row.Volume r)) is = Each-cons IsAside tt Each-none
claim_aside (Some (row.Instance r)) is = Each-cons IsAside tt Each-none
claim_aside (Some (row.Snapshot r)) is = Each-cons IsAside tt Each-none

deed_claims : (d : Deed) → is_claimed (claim_kind d)
deed_claims deed.Create = tt
deed_claims deed.Copy = tt
deed_claims deed.Update = tt
deed_claims deed.Restore = tt
deed_claims deed.Rename = tt
deed_claims deed.Delete = tt
deed_claims (deed.Act does ephemeral) = tt
deed_claims deed.Snap = tt
deed_claims deed.Unsnap = tt
deed_claims deed.CopyVolume = tt

success-aside : (s : State) (task : Task) → IsByDeed task → Each IsAside (success_changes s task)
success-aside s task by = at task.deed where
  puts : Each IsAside (map change.Put (option_to_list task.claim))
  puts = claim_aside task.claim (subst is_claimed (sym by.kind) (deed_claims task.deed))

  removes : Each IsAside (removes_instance s task.project task.target.name)
  removes =
      removes_aside (snapshots_of s task.project task.target.name)
      (instance_named s.instances task.project task.target.name)

  renames : (o : Option Instance) → Each IsAside (option_map_or (renames_instance s task) o [])
  renames None = Each-none
  renames (Some i) =
      Each-append removes (Each-cons IsAside tt (puts_aside i (snapshots_of s task.project task.target.name)))

  acts : (does : Action) (ephemeral : Bool)
      → Each IsAside (success_changes s (record task { deed = deed.Act does ephemeral }))
  acts action.Stop true = removes
  acts action.Stop false = Each-none
  acts action.Start ephemeral = Each-none
  acts action.Restart ephemeral = Each-none
  acts action.Freeze ephemeral = Each-none
  acts action.Unfreeze ephemeral = Each-none

  at : (d : Deed) → Each IsAside (success_changes s (record task { deed = d }))
  at deed.Create = puts
  at deed.Copy = puts
  at deed.Update = puts
  at deed.Restore = puts
  at deed.Rename = renames (claimed_instance task)
  at deed.Delete = removes
  at (deed.Act does ephemeral) = acts does ephemeral
  at deed.Snap = puts
  at deed.Unsnap =
      snapshots_aside (option_to_list (snapshot_named s.snapshots task.project task.target.instance task.target.name))
  at deed.CopyVolume = puts

powered : (task : Task) (power : Option Power) (s : State)
    → ((with_power_after task power s).projects ≡ s.projects) × ((with_power_after task power s).profiles ≡ s.profiles)
powered task None s = (refl, refl)
powered task (Some power) s = (refl, refl)

pub succeeded-defaults : (s : State) (o : Operation Task) (moment : ℕ) → IsByDeed o.work → HasDefaults s
    → HasDefaults (succeeded s o moment)
unfolding succeeded
succeeded-defaults s o moment by h =
    let changes = applied-aside (with_power_after o.work (power_after s o.work) s) (success_changes s o.work) (success-aside s o.work by) in
    let power = powered o.work (power_after s o.work) s in
    defaults-same (changes.0 ∙ power.0) (changes.1 ∙ power.1) h
