-- The success of an operation keeps the references.
use Rattle.std.proofs.Common.{◌≡◌, ◌≢◌, ℕ, Bool, true, false, Option, Some, None, List, [], ◌∷◌, map, refl, sym, ap, subst, ◌∙◌}
use Rattle.std.specs.Prelude.{IfSome}
use Rattle.std.specs.Option.{option_map, option_map_or, option_to_list}
use Rattle.plain_lists.specs.Edits.{dropped}
use Rattle.size_values.specs.declared.kinds.Action.{Action}
use Rattle.size_values.specs.declared.kinds.Action.TheVariants as action
use Rattle.size_values.specs.declared.kinds.Deed.{Deed}
use Rattle.size_values.specs.declared.kinds.Deed.TheVariants as deed
use Rattle.size_values.specs.declared.kinds.ObjectKind.TheVariants as kind
use Rattle.size_values.specs.declared.kinds.Power.{Power}
use Rattle.operations.specs.declared.operation.Operation.{Operation}
use Rattle.operations.specs.OperationTable.{OperationTable, has_number, live_at}
use Rattle.records.specs.declared.rows.Instance.{Instance}
use Rattle.records.specs.declared.rows.Snapshot.{Snapshot}
use Rattle.records.specs.declared.rows.Row.{Row}
use Rattle.records.specs.declared.rows.Row.TheVariants as row
use Rattle.row_machine.specs.declared.changes.RowChange.{RowChange}
use Rattle.row_machine.specs.declared.changes.RowChange.TheVariants as change
use Rattle.row_machine.specs.machine.Task.{Task}
use Rattle.row_machine.specs.machine.State.{State}
use Rattle.row_machine.specs.machine.Rows.{instance_named, snapshot_named, with_instance}
use Rattle.row_machine.specs.machine.Claims.{claimed_instance}
use Rattle.row_machine.specs.machine.Changes.{applied, changed, removal}
use Rattle.row_machine.specs.machine.Asked.{snapshots_of}
use Rattle.row_machine.specs.shown.Urls.{target_of}
use Rattle.row_machine.specs.machine.Operations.{succeeded, success_changes, removes_instance, renames_instance, with_power_after, power_after}
use Rattle.row_machine.specs.facts.Whole.{IsWhole, ReferencesExist, instance_there}
use Rattle.row_machine.specs.machine.Deeds.{has_target, target_kind, claim_kind}
use Rattle.machine_laws.proofs.Found.{there-is}
use Rattle.machine_laws.proofs.ReferencesCore.{bare, AreOf, AreOf-itself, references-fewer, references-core}
use Rattle.machine_laws.proofs.ReferencesClaims.{instance-claimed, snapshot-claimed, volume-claimed}
use Rattle.machine_laws.proofs.ReferencesGuests.{with_guests}
use Rattle.machine_laws.proofs.ReferencesBusy.{others}
use Rattle.machine_laws.proofs.ReferencesSnapshots.{applied-removals, applied-puts, applied-append, without_those}
use Rattle.machine_laws.proofs.ReferencesSuccess.{rest, rest-references, own-placed, own-deed, instance-success, snapshot-success, volume-success, unsnap-success}
use Rattle.machine_laws.proofs.ReferencesRemoved.{without_instance, moved_snapshot, moved_snapshots, removal-success, rename-success}

-- ---- changes of rows are told by the rows

bare_changed : (s : State) (c : RowChange) → bare (changed s c) [] ≡ bare (changed (bare s []) c) []
bare_changed s (change.Put (row.Project r)) = refl
bare_changed s (change.Put (row.Profile r)) = refl
bare_changed s (change.Put (row.Network r)) = refl
bare_changed s (change.Put (row.Pool r)) = refl
bare_changed s (change.Put (row.Volume r)) = refl
bare_changed s (change.Put (row.Instance r)) = refl
bare_changed s (change.Put (row.Snapshot r)) = refl
bare_changed s (change.Remove kind.Project key) = refl
bare_changed s (change.Remove kind.Profile key) = refl
bare_changed s (change.Remove kind.Network key) = refl
bare_changed s (change.Remove kind.Pool key) = refl
bare_changed s (change.Remove kind.Volume key) = refl
bare_changed s (change.Remove kind.Instance key) = refl
bare_changed s (change.Remove kind.Snapshot key) = refl
bare_changed s (change.Remove kind.Operation key) = refl

bare_applied : (cs : List RowChange) (s t : State) → bare s [] ≡ bare t []
    → bare (applied s cs) [] ≡ bare (applied t cs) []
bare_applied [] s t same = same
bare_applied (c ∷ cs) s t same = bare_applied cs (changed s c) (changed t c)
    (bare_changed s c ∙ ap (λ x. bare (changed x c) []) same ∙ sym (bare_changed t c))

changed_operations : (s : State) (c : RowChange) → (changed s c).operations ≡ s.operations
changed_operations s (change.Put (row.Project r)) = refl
changed_operations s (change.Put (row.Profile r)) = refl
changed_operations s (change.Put (row.Network r)) = refl
changed_operations s (change.Put (row.Pool r)) = refl
changed_operations s (change.Put (row.Volume r)) = refl
changed_operations s (change.Put (row.Instance r)) = refl
changed_operations s (change.Put (row.Snapshot r)) = refl
changed_operations s (change.Remove kind.Project key) = refl
changed_operations s (change.Remove kind.Profile key) = refl
changed_operations s (change.Remove kind.Network key) = refl
changed_operations s (change.Remove kind.Pool key) = refl
changed_operations s (change.Remove kind.Volume key) = refl
changed_operations s (change.Remove kind.Instance key) = refl
changed_operations s (change.Remove kind.Snapshot key) = refl
changed_operations s (change.Remove kind.Operation key) = refl

applied_operations : (cs : List RowChange) (s : State) → (applied s cs).operations ≡ s.operations
applied_operations [] s = refl
applied_operations (c ∷ cs) s = applied_operations cs (changed s c) ∙ changed_operations s c

-- ---- the success, by the rows alone

powered : (task : Task) (power : Option Power) (s : State)
    → (bare (with_power_after task power s) [] ≡ bare s []) × ((with_power_after task power s).operations ≡ s.operations)
powered task None s = (refl, refl)
powered task (Some power) s = (refl, refl)

by_rows : (s : State) (o : Operation Task) (moment : ℕ) → ReferencesExist (applied (rest s o) (success_changes s o.work))
    → ReferencesExist (succeeded s o moment)
unfolding succeeded
by_rows s o moment h = references-fewer (applied (rest s o) cs) (succeeded s o moment) same
    (subst (AreOf (applied (rest s o) cs).operations.live) lives AreOf-itself) h
  where
    cs : List RowChange
    cs = success_changes s o.work

    before : State
    before = with_power_after o.work (power_after s o.work) s

    same : bare (applied before cs) [] ≡ bare (applied (rest s o) cs) []
    same = bare_applied cs before (rest s o) (powered o.work (power_after s o.work) s).0

    lives : (applied (rest s o) cs).operations.live ≡ dropped (has_number o.number) (applied before cs).operations.live
    lives =
        ap (λ (k : OperationTable Task). k.live) (applied_operations cs (rest s o))
        ∙ sym
        (ap (λ (k : OperationTable Task). dropped (has_number o.number) k.live) (applied_operations cs before ∙ (powered o.work (power_after s o.work) s).1))

-- ---- by deed

module _ {s : State} {o : Operation Task} (h : IsWhole s) (live : live_at s.operations o.number ≡ Some o) where
  -- the claim is put
  abbrev puts : (c : Option Row) → Type 0
  puts c = ReferencesExist (applied (rest s o) (map change.Put (option_to_list c)))

  claim_of : (d : Deed) → o.work.deed ≡ d → option_map (λ r. (target_of r).kind) o.work.claim ≡ claim_kind d
  claim_of d is = (own-deed h live).kind ∙ ap claim_kind is

  puts_instance : (d : Deed) → o.work.deed ≡ d → claim_kind d ≡ Some kind.Instance → o.work.deed ≢ deed.Rename
      → puts o.work.claim
  puts_instance d is claims other =
      let claim = instance-claimed o.work.claim (claim_of d is ∙ claims) in
      let named : target_of (row.Instance claim.0) ≡ o.work.target = subst (λ c. IfSome c (λ r. target_of r ≡ o.work.target)) claim.1 ((own-deed h live).named other) in
      subst puts (sym claim.1)
      (references-core (with_guests (rest s o) (with_instance claim.0 s.instances) s.snapshots) (applied (rest s o) (change.Put (row.Instance claim.0) ∷ [])) refl
      (instance-success h live claim.0 claim.1 named))

  puts_snapshot : o.work.deed ≡ deed.Snap → puts o.work.claim
  puts_snapshot is =
      let claim = snapshot-claimed o.work.claim (claim_of deed.Snap is) in
      subst puts (sym claim.1) (snapshot-success h live claim.0 claim.1)

  puts_volume : o.work.deed ≡ deed.CopyVolume → puts o.work.claim
  puts_volume is =
      let claim = volume-claimed o.work.claim (claim_of deed.CopyVolume is) in
      subst puts (sym claim.1) (volume-success h live claim.0 claim.1)

  -- the instance of the target
  instance_target : (d : Deed) → o.work.deed ≡ d → target_kind d ≡ kind.Instance → o.work.target.kind ≡ kind.Instance
  instance_target d is about = (own-deed h live).target ∙ ap target_kind is ∙ about

  target_row : (d : Deed) → o.work.deed ≡ d → target_kind d ≡ kind.Instance → has_target d ≡ true
      → (i : Instance) × (instance_named s.instances o.work.project o.work.target.name ≡ Some i)
  target_row d is about has =
      let there = (own-placed h live).target (ap has_target is ∙ has) in
      there-is (instance_named s.instances o.work.project o.work.target.name)
      (subst (λ k. instance_there s o.work.project (record o.work.target { kind = k })) (instance_target d is about) there)

  -- without the target and its snapshots
  abbrev without : Instance → State
  without old =
      with_guests (rest s o) (without_instance old s.instances) (without_those s o.work.project o.work.target.name)

  removed_bare : (old : Instance) → instance_named s.instances o.work.project o.work.target.name ≡ Some old
      → (bare (applied (rest s o) (removes_instance s o.work.project o.work.target.name)) [] ≡ bare (without old) [])
      ×
      ((applied (rest s o) (removes_instance s o.work.project o.work.target.name)).operations ≡ (rest s o).operations)
  removed_bare old found = (
    ap (λ x. bare x [])
        (applied-removals (snapshots_of s o.work.project o.work.target.name) (map row.Instance (option_to_list (instance_named s.instances o.work.project o.work.target.name))) (rest s o))
        ∙ ap
        (λ x. bare (applied (record (rest s o) { snapshots = without_those s o.work.project o.work.target.name }) (map removal (map row.Instance (option_to_list x)))) [])
        found,
    applied_operations (removes_instance s o.work.project o.work.target.name) (rest s o),
  )

  removes : (d : Deed) → o.work.deed ≡ d → target_kind d ≡ kind.Instance → has_target d ≡ true
      → ReferencesExist (applied (rest s o) (removes_instance s o.work.project o.work.target.name))
  removes d is about has =
      let old = target_row d is about has in
      let same = removed_bare old.0 old.1 in
      references-fewer (without old.0) (applied (rest s o) (removes_instance s o.work.project o.work.target.name)) same.0
      (subst (AreOf (others s o)) (sym (ap (λ (k : OperationTable Task). k.live) same.1)) AreOf-itself)
      (removal-success h live (instance_target d is about) old.0 old.1)

  -- the rows of a rename
  abbrev renamed_rows : Instance → List RowChange
  renamed_rows i =
      map change.Put
      (row.Instance i ∷ map (λ r. row.Snapshot (moved_snapshot i r)) (snapshots_of s o.work.project o.work.target.name))

  renamed_bare : (i old : Instance) → instance_named s.instances o.work.project o.work.target.name ≡ Some old
      → (bare (applied (rest s o) (renames_instance s o.work i)) [] ≡ bare (with_guests (rest s o) (with_instance i (without_instance old s.instances)) (moved_snapshots s o.work i)) [])
      × ((applied (rest s o) (renames_instance s o.work i)).operations ≡ (rest s o).operations)
  renamed_bare i old found = (
    ap (λ x. bare x [])
        (applied-append (removes_instance s o.work.project o.work.target.name) (renamed_rows i) (rest s o))
        ∙ bare_applied (renamed_rows i) (applied (rest s o) (removes_instance s o.work.project o.work.target.name))
        (without old) (removed_bare old found).0
        ∙ ap (λ x. bare x [])
        (applied-puts (moved_snapshot i) (snapshots_of s o.work.project o.work.target.name) (changed (without old) (change.Put (row.Instance i)))),
    applied_operations (renames_instance s o.work i) (rest s o),
  )

  renames : o.work.deed ≡ deed.Rename
      → ReferencesExist (applied (rest s o) (option_map_or (renames_instance s o.work) (claimed_instance o.work) []))
  renames is =
      let claim = instance-claimed o.work.claim (claim_of deed.Rename is) in
      let claimed : claimed_instance o.work ≡ Some claim.0 = ap (λ c. claimed_instance (record o.work { claim = c })) claim.1 in
      let old = target_row deed.Rename is refl refl in
      let same = renamed_bare claim.0 old.0 old.1 in
      subst (λ c. ReferencesExist (applied (rest s o) (option_map_or (renames_instance s o.work) c []))) (sym claimed)
      (references-fewer (with_guests (rest s o) (with_instance claim.0 (without_instance old.0 s.instances)) (moved_snapshots s o.work claim.0))
      (applied (rest s o) (renames_instance s o.work claim.0)) same.0
      (subst (AreOf (others s o)) (sym (ap (λ (k : OperationTable Task). k.live) same.1)) AreOf-itself)
      (rename-success h live (instance_target deed.Rename is refl) old.0 old.1 claim.0 claim.1 is))

  unsnaps : o.work.deed ≡ deed.Unsnap
      → ReferencesExist (applied (rest s o) (map removal (map row.Snapshot (option_to_list (snapshot_named s.snapshots o.work.project o.work.target.instance o.work.target.name)))))
  unsnaps is = at (snapshot_named s.snapshots o.work.project o.work.target.instance o.work.target.name) refl where
    at : (c : Option Snapshot)
        → snapshot_named s.snapshots o.work.project o.work.target.instance o.work.target.name ≡ c
        → ReferencesExist (applied (rest s o) (map removal (map row.Snapshot (option_to_list c))))
    at None found = rest-references s o h.references
    at (Some r) found = unsnap-success h live r found ((own-deed h live).target ∙ ap target_kind is)

  acts : (does : Action) (ephemeral : Bool) → o.work.deed ≡ deed.Act does ephemeral
      → ReferencesExist (applied (rest s o) (success_changes s (record o.work { deed = deed.Act does ephemeral })))
  acts action.Stop true is = removes (deed.Act action.Stop true) is refl refl
  acts action.Stop false is = rest-references s o h.references
  acts action.Start ephemeral is = rest-references s o h.references
  acts action.Restart ephemeral is = rest-references s o h.references
  acts action.Freeze ephemeral is = rest-references s o h.references
  acts action.Unfreeze ephemeral is = rest-references s o h.references

  by_deed : (d : Deed) → o.work.deed ≡ d
      → ReferencesExist (applied (rest s o) (success_changes s (record o.work { deed = d })))
  by_deed deed.Create is =
      puts_instance deed.Create is refl (λ e. let x : deed.Create ≡ deed.Rename = sym is ∙ e in cc)
  by_deed deed.Copy is = puts_instance deed.Copy is refl (λ e. let x : deed.Copy ≡ deed.Rename = sym is ∙ e in cc)
  by_deed deed.Update is =
      puts_instance deed.Update is refl (λ e. let x : deed.Update ≡ deed.Rename = sym is ∙ e in cc)
  by_deed deed.Restore is =
      puts_instance deed.Restore is refl (λ e. let x : deed.Restore ≡ deed.Rename = sym is ∙ e in cc)
  by_deed deed.Rename is = renames is
  by_deed deed.Delete is = removes deed.Delete is refl refl
  by_deed (deed.Act does ephemeral) is = acts does ephemeral is
  by_deed deed.Snap is = puts_snapshot is
  by_deed deed.Unsnap is = unsnaps is
  by_deed deed.CopyVolume is = puts_volume is

  pub succeeded-references : (moment : ℕ) → ReferencesExist (succeeded s o moment)
  succeeded-references moment = by_rows s o moment (by_deed o.work.deed refl)
