-- An operation that begins keeps the references.
use Rattle.std.proofs.Common.{◌≡◌, ℕ, true, Option, Some, None, List, [], ◌∷◌, ◌++◌, refl, sym, ap, subst, ◌∙◌, inl, inr}
use Rattle.std.specs.List.{filter_map}
use Rattle.std.specs.Option.{is_some, option_to_list}
use Rattle.plain_lists.specs.Members.{Mem, Each}
use Rattle.plain_lists.proofs.Elements.{Each-map, Each-append, Each-left, Each-right, Each-push, Mem-append}
use Rattle.plain_lists.proofs.Readings.{Mem-read, Mem-from_read}
use Rattle.instance_states.specs.Plans.{undo_of}
use Rattle.operations.specs.declared.operation.Operation.{Operation}
use Rattle.operations.specs.declared.operation.OpFault.TheVariants as fault
use Rattle.operations.specs.declared.status.Status.TheVariants as status
use Rattle.records.specs.Forms.{are_profiles}
use Rattle.records.specs.declared.rows.Instance.{Instance}
use Rattle.records.specs.declared.rows.Snapshot.{Snapshot}
use Rattle.records.specs.declared.rows.Row.TheVariants as row
use Rattle.row_machine.specs.machine.Task.{Task}
use Rattle.row_machine.specs.machine.State.{State}
use Rattle.row_machine.specs.machine.Claims.{of_live, claimed_instance, claimed_snapshot, judged_instances}
use Rattle.row_machine.specs.machine.SettingRules.{devices_miss, settings_broken}
use Rattle.row_machine.specs.machine.Operations.{entered, claiming}
use Rattle.row_machine.specs.facts.Whole.{HasReferences, IsPlaced, ReferencesExist}
use Rattle.machine_laws.proofs.DefaultsSettled.{first-settled}
use Rattle.machine_laws.proofs.ReferencesClaims.{claim-instance}
use Rattle.machine_laws.proofs.ReferencesGuests.{instance-row_accepted}
use Rattle.machine_laws.proofs.ReferencesProfiles.{instance-accepted}
use Rattle.machine_laws.proofs.ReferencesCore.{refers-rows, placed-rows}

-- what is read of one more task
read_more : {X : Type 0} (read : Task → Option X) {P : X → Type 0} (live : List (Operation Task)) (o : Operation Task)
    → Each P (filter_map (λ x. read x.work) live) → ((x : X) → read o.work ≡ Some x → P x)
    → Each P (filter_map (λ x. read x.work) (live ++ o ∷ []))
read_more {X} read {P} live o before new = record { at = λ x m. at x (Mem-from_read (λ (y : Operation Task). read y.work) x (live ++ o ∷ []) m) } where
  at : (x : X) → (y : Operation Task) × (Mem y (live ++ o ∷ []) × (read y.work ≡ Some x)) → P x
  at x found = elim (Mem-append found.0 live (o ∷ []) found.1.0) [
    | inl m ↦ before.at x (Mem-read (λ (y : Operation Task). read y.work) found.0 x live m found.1.1)
    | inr m ↦ elim m [
      | inl e ↦ new x (sym (ap (λ (y : Operation Task). read y.work) e) ∙ found.1.1)
      | inr n ↦ absurd n
    ]
  ]

-- An operation is entered whose task stands where it should, and whose claimed instance has all that it names.
pub entered-references : (s : State) (task : Task) (moment : ℕ) → ReferencesExist s → IsPlaced s task
    → ((i : Instance) → claimed_instance task ≡ Some i → HasReferences s i)
    → ((r : Snapshot) → claimed_snapshot task ≡ Some r → are_profiles r.profiles ≡ true)
    → ReferencesExist (entered s task moment)
unfolding entered judged_instances devices_miss
entered-references s task moment h placed refers snapshot = record {
  homes = h.homes;
  volumes = h.volumes;
  snapshots = h.snapshots;
  snapshot_profiles = Each-append (Each-left (of_live claimed_snapshot s) h.snapshot_profiles)
      (read_more claimed_snapshot s.operations.live new (Each-right s.snapshots h.snapshot_profiles) snapshot);
  profiles = h.profiles;
  instances = Each-map (λ i. refers-rows s (entered s task moment) i refl)
      (Each-append (Each-left (of_live claimed_instance s) h.instances)
      (read_more claimed_instance s.operations.live new (Each-right s.instances h.instances) refers));
  operations = Each-map (λ o. placed-rows s (entered s task moment) o.work refl)
      (Each-push (λ (o : Operation Task). IsPlaced s o.work) h.operations placed);
} where
  new : Operation Task
  new = record {
    number = s.operations.next;
    created = moment;
    updated = moment;
    status = status.Pending;
    may_cancel = is_some (undo_of task.deed);
    fault = fault.None;
    work = task;
  }

-- a claimed instance that the rules on settings accept has all that it names
pub claim-refers : (s : State) (task : Task) (moment : ℕ) (i : Instance) → claimed_instance task ≡ Some i
    → settings_broken (claiming s task moment) (option_to_list task.claim) ≡ None → are_profiles i.profiles ≡ true
    → HasReferences s i
claim-refers s task moment i is settled few =
    let claim = claim-instance task i is in
    let row_settled = first-settled (claiming s task moment) (row.Instance i) []
    (subst (λ c. settings_broken (claiming s task moment) (option_to_list c) ≡ None) claim settled) in
    let parts = instance-accepted (claiming s task moment) i (instance-row_accepted (claiming s task moment) i row_settled) in
    refers-rows (claiming s task moment) s i refl (record { few = few; profiles = parts.0; devices = parts.1 })
