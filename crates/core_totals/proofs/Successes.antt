-- What projects use after the success of each deed.
use Rattle.std.proofs.Common.{◌≡◌, ◌≢◌, ℕ, ◌+◌, ◌-◌, ◌⊎◌, inl, inr, ◌&&◌, Bool, true, false, cond, Option, Some, None, List, [], ◌∷◌, ◌++◌, refl, sym, ◌∙◌, ap, subst, arith}
use Rattle.std.specs.Prelude.{map, if◌then◌else◌}
use Rattle.std.specs.List.{find, sum_by}
use Rattle.std.specs.Option.{option_map, option_map_or, option_and_then, option_to_list}
use Rattle.std.specs.Str.{bytes_eq}
use Rattle.std.proofs.lemmas.Bool.{false≢true}
use Rattle.std.proofs.lemmas.List.{map-append}
use Rattle.plain_lists.specs.Members.{Mem, Each}
use Rattle.plain_lists.specs.Edits.{dropped}
use Rattle.plain_lists.proofs.PutsLemmas.{sum_by-Puts}
use Rattle.plain_lists.proofs.Elements.{Each-head, Each-tail}
use Rattle.plain_lists.proofs.EditLemmas.{dropped-Puts}
use Rattle.plain_lists.proofs.Readings.{sum_by-same}
use Rattle.plain_lists.proofs.Searches.{find-some}
use Rattle.config_lists.proofs.Keys.{same, bytes_eq-itself}
use Rattle.size_values.specs.Amounts.{part, nothing, minus_of}
use Rattle.size_values.specs.PoolParts.{no_part, on_pool}
use Rattle.size_values.specs.declared.amounts.Part.{Part}
use Rattle.size_values.proofs.AmountParts.{same-parts, part-excess, part-minus}
use Rattle.size_values.specs.declared.kinds.Action.TheVariants as action
use Rattle.size_values.specs.declared.kinds.Deed.{Deed}
use Rattle.size_values.specs.declared.kinds.Deed.TheVariants as deed
use Rattle.size_values.specs.declared.kinds.ObjectKind.TheVariants as kind
use Rattle.operations.specs.declared.operation.Operation.{Operation}
use Rattle.operations.specs.declared.operation.OpFault.TheVariants as fault
use Rattle.operations.specs.declared.status.Status.TheVariants as status
use Rattle.operations.specs.OperationTable.{has_number, live_at}
use Rattle.records.specs.declared.rows.Instance.{Instance}
use Rattle.records.specs.declared.rows.Snapshot.{Snapshot}
use Rattle.records.specs.declared.rows.Row.{Row}
use Rattle.records.specs.declared.rows.Row.TheVariants as row
use Rattle.row_codec.specs.Spelling.{two_names}
use Rattle.row_machine.specs.declared.changes.RowChange.TheVariants as change
use Rattle.row_machine.specs.machine.Task.{Task}
use Rattle.row_machine.specs.machine.State.{State}
use Rattle.row_machine.specs.machine.Rows.{is_instance, instance_named, snapshot_named, instance_names, with_instance, texts_before}
use Rattle.row_machine.specs.machine.Asked.{snapshots_of}
use Rattle.row_machine.specs.machine.Changes.{has_key, applied, removal}
use Rattle.row_machine.specs.machine.Claims.{claimed_instance, replaced_instance, amounts_of_instance, part_of_instance, share_of, part_of_share, project_of_row}
use Rattle.row_machine.specs.machine.Deeds.{claim_kind, replaces_target, has_target, target_kind, keeps_name}
use Rattle.row_machine.specs.shown.Urls.{target_of}
use Rattle.row_machine.specs.machine.Usage.{usage_of, used_on}
use Rattle.row_machine.specs.machine.Operations.{converted, ended, succeeded, success_changes, with_power_after, power_after}
use Rattle.row_machine.specs.facts.Whole.{IsWhole, IsByDeed, IsPlaced, instance_there, new_instance}
use Rattle.row_readings.specs.Footprints.{no_footprint, footprint_above, instance_footprint}
use Rattle.row_readings.specs.declared.amounts.Footprint.{Footprint}
use Rattle.machine_laws.specs.Lowered.{IsLastDone, LowersUsage}
use Rattle.machine_laws.proofs.BooksSteps.{applied-same, power-keeps}
use Rattle.machine_laws.proofs.ExpansionsApart.{fails-by}
use Rattle.machine_laws.proofs.Found.{there-is, instance-found}
use Rattle.machine_laws.proofs.LimitsEnds.{claims-same, instance-same, share-new}
use Rattle.machine_laws.proofs.LimitsRows.{Tables, tables, IsDone, applied-append, unsnapped, with-instance}
use Rattle.machine_laws.proofs.LimitsSuccess.{success-rows, power-tables, ClaimsInstance, none, some, claims-instance}
use Rattle.machine_laws.proofs.LimitsSums.{instance_part, volume_part, claim_part, used-split, sum-more}
use Rattle.machine_laws.proofs.LoweredUsage.{lowers}
use Rattle.machine_laws.proofs.Measures.{Measure, IsMeasure, measured, used_by, pool-measure, none-measure}
use Rattle.machine_laws.proofs.SharesAlike.{HoldsAlike}
use Rattle.machine_laws.proofs.SharesApart.{new-no_row, instance-so, instance-key, instance-row}
use Rattle.machine_laws.proofs.SharesSuccess.{share-done, done-projects, counts-tables}
use Rattle.core_totals.specs.Ends.{leaves_usage, has_fall, fall_of}
use Rattle.core_totals.proofs.Usage.{SameUsage, Falls, falls-measured}

-- ---- what deeds are

-- the claimed row of a creation is put
abbrev pub makes_instance : Deed → Bool
makes_instance deed.Create = true
makes_instance deed.Copy = true
makes_instance other = false

made-rows : (s start : State) (task : Task) (d : Deed) (new : Instance) → makes_instance d ≡ true → task.claim ≡ Some (row.Instance new) → tables start ≡ tables s
    → tables (applied start (success_changes s (record task { deed = d }))) ≡ record (tables s) { instances = with_instance new s.instances }
made-rows s start task deed.Create new h is same = ap (λ c. tables (applied start (map change.Put (option_to_list c)))) is ∙ with-instance new start (tables s) same
made-rows s start task deed.Copy new h is same = ap (λ c. tables (applied start (map change.Put (option_to_list c)))) is ∙ with-instance new start (tables s) same
made-rows s start task deed.Update new h is same = absurd (cc)
made-rows s start task deed.Restore new h is same = absurd (cc)
made-rows s start task deed.Rename new h is same = absurd (cc)
made-rows s start task deed.Delete new h is same = absurd (cc)
made-rows s start task (deed.Act a e) new h is same = absurd (cc)
made-rows s start task deed.Snap new h is same = absurd (cc)
made-rows s start task deed.Unsnap new h is same = absurd (cc)
made-rows s start task deed.CopyVolume new h is same = absurd (cc)

-- it claims a new instance and replaces none
made-claims : (d : Deed) → makes_instance d ≡ true → (claim_kind d ≡ Some kind.Instance) × (replaces_target d ≡ false)
made-claims deed.Create h = (refl, refl)
made-claims deed.Copy h = (refl, refl)
made-claims deed.Update h = absurd (cc)
made-claims deed.Restore h = absurd (cc)
made-claims deed.Rename h = absurd (cc)
made-claims deed.Delete h = absurd (cc)
made-claims (deed.Act a e) h = absurd (cc)
made-claims deed.Snap h = absurd (cc)
made-claims deed.Unsnap h = absurd (cc)
made-claims deed.CopyVolume h = absurd (cc)

made-new : (task : Task) (d : Deed) → makes_instance d ≡ true → new_instance (record task { deed = d }) ≡ claimed_instance task
made-new task deed.Create h = refl
made-new task deed.Copy h = refl
made-new task deed.Update h = absurd (cc)
made-new task deed.Restore h = absurd (cc)
made-new task deed.Rename h = absurd (cc)
made-new task deed.Delete h = absurd (cc)
made-new task (deed.Act a e) h = absurd (cc)
made-new task deed.Snap h = absurd (cc)
made-new task deed.Unsnap h = absurd (cc)
made-new task deed.CopyVolume h = absurd (cc)

-- ---- the removal of an instance

-- the deeds that remove their target
abbrev pub removes : Deed → Bool
removes deed.Delete = true
removes (deed.Act action.Stop true) = true
removes other = false

abbrev without : Instance → List Instance → List Instance
without old rows = dropped (λ r. has_key (two_names old.project old.name) (row.Instance r)) rows

-- the snapshots of an instance go, and then the instance
removed-rows : (s start : State) (old : Instance) (rs : List Snapshot) → tables start ≡ tables s
    → tables (applied start (map removal (map row.Snapshot rs ++ map row.Instance (old ∷ []))))
    ≡ record (tables s) { instances = without old s.instances }
removed-rows s start old rs same =
    ap (λ cs. tables (applied start cs)) (map-append removal (map row.Snapshot rs) (map row.Instance (old ∷ [])))
    ∙ ap tables (applied-append (map removal (map row.Snapshot rs)) (map removal (map row.Instance (old ∷ []))) start)
    ∙ ap (λ (x : Tables). record x { instances = without old x.instances }) (unsnapped rs start ∙ same)

removing-rows : (s start : State) (task : Task) (d : Deed) (old : Instance) → removes d ≡ true
    → instance_named s.instances task.project task.target.name ≡ Some old → tables start ≡ tables s
    → tables (applied start (success_changes s (record task { deed = d }))) ≡ record (tables s) { instances = without old s.instances }
removing-rows s start task deed.Delete old h is same =
    ap (λ found. tables (applied start (map removal (map row.Snapshot (snapshots_of s task.project task.target.name) ++ map row.Instance (option_to_list found))))) is
    ∙ removed-rows s start old (snapshots_of s task.project task.target.name) same
removing-rows s start task (deed.Act action.Stop true) old h is same =
    ap (λ found. tables (applied start (map removal (map row.Snapshot (snapshots_of s task.project task.target.name) ++ map row.Instance (option_to_list found))))) is
    ∙ removed-rows s start old (snapshots_of s task.project task.target.name) same
removing-rows s start task (deed.Act action.Stop false) old h is same = absurd (cc)
removing-rows s start task (deed.Act action.Start e) old h is same = absurd (cc)
removing-rows s start task (deed.Act action.Restart e) old h is same = absurd (cc)
removing-rows s start task (deed.Act action.Freeze e) old h is same = absurd (cc)
removing-rows s start task (deed.Act action.Unfreeze e) old h is same = absurd (cc)
removing-rows s start task deed.Create old h is same = absurd (cc)
removing-rows s start task deed.Copy old h is same = absurd (cc)
removing-rows s start task deed.Update old h is same = absurd (cc)
removing-rows s start task deed.Restore old h is same = absurd (cc)
removing-rows s start task deed.Rename old h is same = absurd (cc)
removing-rows s start task deed.Snap old h is same = absurd (cc)
removing-rows s start task deed.Unsnap old h is same = absurd (cc)
removing-rows s start task deed.CopyVolume old h is same = absurd (cc)

-- they claim nothing and have their target
removing-claims : (d : Deed) → removes d ≡ true → (claim_kind d ≡ None) × ((has_target d ≡ true) × (target_kind d ≡ kind.Instance))
removing-claims deed.Delete h = (refl, (refl, refl))
removing-claims (deed.Act a e) h = (refl, (refl, refl))
removing-claims deed.Create h = absurd (cc)
removing-claims deed.Copy h = absurd (cc)
removing-claims deed.Update h = absurd (cc)
removing-claims deed.Restore h = absurd (cc)
removing-claims deed.Rename h = absurd (cc)
removing-claims deed.Snap h = absurd (cc)
removing-claims deed.Unsnap h = absurd (cc)
removing-claims deed.CopyVolume h = absurd (cc)

-- ---- what leaves all that counts

-- the deeds whose success changes at most snapshots and a status
abbrev pub leaves_rows : Deed → Bool
leaves_rows deed.Snap = true
leaves_rows deed.Unsnap = true
leaves_rows (deed.Act action.Stop ephemeral) = if ephemeral then false else true
leaves_rows (deed.Act does ephemeral) = true
leaves_rows other = false

leaving-rows : (s start : State) (task : Task) (d : Deed) → leaves_rows d ≡ true → option_map (λ r. (target_of r).kind) task.claim ≡ claim_kind d
    → tables start ≡ tables s → tables (applied start (success_changes s (record task { deed = d }))) ≡ tables s
leaving-rows s start task deed.Snap h is same = at task.claim is where
  at : (claim : Option Row) → option_map (λ r. (target_of r).kind) claim ≡ Some kind.Snapshot
      → tables (applied start (map change.Put (option_to_list claim))) ≡ tables s
  at None k = same
  at (Some (row.Snapshot r)) k = same
  at (Some (row.Project r)) k = absurd (cc)
  at (Some (row.Profile r)) k = absurd (cc)
  at (Some (row.Network r)) k = absurd (cc)
  at (Some (row.Pool r)) k = absurd (cc)
  at (Some (row.Volume r)) k = absurd (cc)
  at (Some (row.Instance r)) k = absurd (cc)
leaving-rows s start task deed.Unsnap h is same =
    unsnapped (option_to_list (snapshot_named s.snapshots task.project task.target.instance task.target.name)) start ∙ same
leaving-rows s start task (deed.Act action.Stop false) h is same = same
leaving-rows s start task (deed.Act action.Stop true) h is same = absurd (cc)
leaving-rows s start task (deed.Act action.Start e) h is same = same
leaving-rows s start task (deed.Act action.Restart e) h is same = same
leaving-rows s start task (deed.Act action.Freeze e) h is same = same
leaving-rows s start task (deed.Act action.Unfreeze e) h is same = same
leaving-rows s start task deed.Create h is same = absurd (cc)
leaving-rows s start task deed.Copy h is same = absurd (cc)
leaving-rows s start task deed.Update h is same = absurd (cc)
leaving-rows s start task deed.Restore h is same = absurd (cc)
leaving-rows s start task deed.Rename h is same = absurd (cc)
leaving-rows s start task deed.Delete h is same = absurd (cc)
leaving-rows s start task deed.CopyVolume h is same = absurd (cc)

-- they claim nothing that counts
leaving-claims : (d : Deed) → leaves_rows d ≡ true → (claim_kind d ≡ None) ⊎ (claim_kind d ≡ Some kind.Snapshot)
leaving-claims deed.Snap h = inr refl
leaving-claims deed.Unsnap h = inl refl
leaving-claims (deed.Act a e) h = inl refl
leaving-claims deed.Create h = absurd (cc)
leaving-claims deed.Copy h = absurd (cc)
leaving-claims deed.Update h = absurd (cc)
leaving-claims deed.Restore h = absurd (cc)
leaving-claims deed.Rename h = absurd (cc)
leaving-claims deed.Delete h = absurd (cc)
leaving-claims deed.CopyVolume h = absurd (cc)

leaving-replaces : (d : Deed) → leaves_rows d ≡ true → replaces_target d ≡ false
leaving-replaces deed.Snap h = refl
leaving-replaces deed.Unsnap h = refl
leaving-replaces (deed.Act a e) h = refl
leaving-replaces deed.Create h = absurd (cc)
leaving-replaces deed.Copy h = absurd (cc)
leaving-replaces deed.Update h = absurd (cc)
leaving-replaces deed.Restore h = absurd (cc)
leaving-replaces deed.Rename h = absurd (cc)
leaving-replaces deed.Delete h = absurd (cc)
leaving-replaces deed.CopyVolume h = absurd (cc)

none-counts : (project : List ℕ) (k : Measure) → IsMeasure k → (of : List ℕ) → measured project k (record { project = of; amounts = nothing; on = no_part }) ≡ 0
none-counts project k measure of = at (bytes_eq of project) where
  at : (b : Bool) → cond b (k nothing no_part) 0 ≡ 0
  at false = refl
  at true = none-measure k measure

-- ---- one success

module _ (s : State) (o : Operation Task) (moment : ℕ) (h : IsWhole s) (live : live_at s.operations o.number ≡ Some o) where
  o_live : Mem o s.operations.live
  o_live = (find-some (has_number o.number) s.operations.live o live).0

  deeds : IsByDeed o.work
  deeds = h.operations.deeds.at o o_live

  placed : IsPlaced s o.work
  placed = h.references.operations.at o o_live

  abbrev start : State
  start = with_power_after o.work (power_after s o.work) s

  abbrev next : State
  next = converted o.number (ended o.number status.Success fault.None moment (applied (with_power_after o.work (power_after s o.work) s) (success_changes s o.work)))

  done-rows : IsDone (tables s) o.work (tables next)
  done-rows = success-rows s o.work (power_after s o.work) deeds

  rest : next.operations.live ≡ dropped (has_number o.number) s.operations.live
  rest = ap (λ k. dropped (has_number o.number) k.live) ((applied-same (success_changes s o.work) start).operations
      ∙ power-keeps (λ t. t.operations ≡ s.operations) (λ t powers e. e) o.work (power_after s o.work) s refl)

  shares : Each (λ (x : Operation Task). HoldsAlike s next x.work) (dropped (has_number o.number) s.operations.live)
  shares = record { at = λ x m. share-done s o x next h live m done-rows }

  -- all that counts, before and after
  success-used : (project : List ℕ) (k : Measure)
      → used_by next project k + claim_part s project k o + (sum_by (instance_part s project k) s.instances + sum_by (volume_part project k) s.volumes)
      ≡ used_by s project k + (sum_by (instance_part s project k) next.instances + sum_by (volume_part project k) next.volumes)
  success-used project k =
      let before = used-split s project k in
      let after = used-split next project k in
      let claims : sum_by (claim_part s project k) s.operations.live ≡ claim_part s project k o + sum_by (claim_part s project k) (dropped (has_number o.number) s.operations.live) =
      sum_by-Puts (claim_part s project k) (dropped-Puts (has_number o.number) o s.operations.live live) in
      let others : sum_by (claim_part next project k) next.operations.live ≡ sum_by (claim_part s project k) (dropped (has_number o.number) s.operations.live) =
      ap (sum_by (claim_part next project k)) rest ∙ claims-same s next project k (dropped (has_number o.number) s.operations.live) shares in
      let same_homes = done-projects s done-rows in
      let instances : sum_by (instance_part next project k) next.instances ≡ sum_by (instance_part s project k) next.instances =
      sum_by-same (instance_part next project k) (instance_part s project k) next.instances
      (record { at = λ j m. instance-same s next project k j (counts-tables s next j same_homes.0 same_homes.1) }) in
      omega (arith, before, after, claims, others, instances)

  -- with these rows
  success-with : (later : Tables) → tables next ≡ later → (project : List ℕ) (k : Measure)
      → used_by next project k + claim_part s project k o + (sum_by (instance_part s project k) s.instances + sum_by (volume_part project k) s.volumes)
      ≡ used_by s project k + (sum_by (instance_part s project k) later.instances + sum_by (volume_part project k) later.volumes)
  success-with later is project k =
      success-used project k
      ∙ ap (λ (x : Tables). used_by s project k + (sum_by (instance_part s project k) x.instances + sum_by (volume_part project k) x.volumes)) is

  replaced-none : replaces_target o.work.deed ≡ false → replaced_instance s o.work ≡ None
  replaced-none e = ap by_names (deeds.replaces ∙ ap (λ b. cond b (Some (o.work.project, o.work.target.name)) None) e) where
    by_names : Option (List ℕ × List ℕ) → Option Instance
    by_names names = option_and_then (λ (n : List ℕ × List ℕ). instance_named s.instances n.0 n.1) names

  unclaimed : o.work.claim ≡ None → (project : List ℕ) (k : Measure) → claim_part s project k o ≡ 0
  unclaimed is project k = ap (λ claim. option_map_or (measured project k)
      (option_map (λ (new : Row). record { project = project_of_row new; amounts = share_of s o.work; on = part_of_share s o.work }) claim) 0) is

  claimed-none : claim_kind o.work.deed ≡ None → o.work.claim ≡ None
  claimed-none e = at o.work.claim (deeds.kind ∙ e) where
    at : (claim : Option Row) → option_map (λ r. (target_of r).kind) claim ≡ None → claim ≡ None
    at None k = refl
    at (Some r) k = cc

  -- ---- a creation

  -- no row has its name
  new-name : makes_instance o.work.deed ≡ true → (i : Instance) → claimed_instance o.work ≡ Some i → instance_named s.instances i.project i.name ≡ None
  new-name makes i claimed = at (instance_named s.instances i.project i.name) refl where
    at : (found : Option Instance) → instance_named s.instances i.project i.name ≡ found → found ≡ None
    at None is = refl
    at (Some j) is =
        let names = instance-found s.instances i.project i.name j is in
        absurd (new-no_row s o i j h o_live (made-new o.work o.work.deed makes ∙ claimed)
        (find-some (is_instance i.project i.name) s.instances j is).0 (sym names.0, sym names.1))

  made-used : makes_instance o.work.deed ≡ true → (i : Instance) → o.work.claim ≡ Some (row.Instance i) → claimed_instance o.work ≡ Some i
      → (project : List ℕ) (k : Measure) → used_by next project k ≡ used_by s project k
  made-used makes i claim claimed project k =
      let rows : tables next ≡ record (tables s) { instances = with_instance i s.instances } = made-rows s start o.work o.work.deed i makes claim (power-tables o.work (power_after s o.work) s) in
      let all = success-with (record (tables s) { instances = with_instance i s.instances }) rows project k in
      let more : sum_by (instance_part s project k) (with_instance i s.instances) ≡ instance_part s project k i + sum_by (instance_part s project k) s.instances =
      sum-more (instance_part s project k) (is_instance i.project i.name) (λ y. texts_before (instance_names i) (instance_names y)) i s.instances (new-name makes i claimed) in
      let held : claim_part s project k o ≡ instance_part s project k i = share-new s project k o (row.Instance i) claim (replaced-none (made-claims o.work.deed makes).1) in
      omega (arith, all, more, held)

  made-next : makes_instance o.work.deed ≡ true → SameUsage s next
  made-next makes = at (claims-instance o.work claim_is) where
    claim_is : option_map (λ r. (target_of r).kind) o.work.claim ≡ Some kind.Instance
    claim_is = deeds.kind ∙ (made-claims o.work.deed makes).0

    never : (claim : Option Row) → claim ≡ None → option_map (λ r. (target_of r).kind) claim ≡ Some kind.Instance → ⊥
    never None e is = cc
    never (Some r) e is = cc

    at : ClaimsInstance o.work → SameUsage s next
    at (none is) = absurd (never o.work.claim is claim_is)
    at (some i claim claimed) = λ project k measure. made-used makes i claim claimed project k

  -- ---- what leaves the rows

  without_amount : leaves_rows o.work.deed ≡ true → (project : List ℕ) (k : Measure) → IsMeasure k → claim_part s project k o ≡ 0
  without_amount leaves project k measure = elim (leaving-claims o.work.deed leaves) [
    | inl e ↦ unclaimed (claimed-none e) project k
    | inr e ↦ at o.work.claim refl (deeds.kind ∙ e)
  ] where
    at : (claim : Option Row) → o.work.claim ≡ claim → option_map (λ r. (target_of r).kind) claim ≡ Some kind.Snapshot → claim_part s project k o ≡ 0
    at None is k_is = unclaimed is project k
    at (Some (row.Snapshot r)) is k_is =
        share-new s project k o (row.Snapshot r) is (replaced-none (leaving-replaces o.work.deed leaves)) ∙ none-counts project k measure r.project
    at (Some (row.Project r)) is k_is = absurd (cc)
    at (Some (row.Profile r)) is k_is = absurd (cc)
    at (Some (row.Network r)) is k_is = absurd (cc)
    at (Some (row.Pool r)) is k_is = absurd (cc)
    at (Some (row.Volume r)) is k_is = absurd (cc)
    at (Some (row.Instance r)) is k_is = absurd (cc)

  left-next : leaves_rows o.work.deed ≡ true → SameUsage s next
  left-next leaves project k measure =
      let all = success-with (tables s) (leaving-rows s start o.work o.work.deed leaves deeds.kind (power-tables o.work (power_after s o.work) s)) project k in
      omega (arith, all, without_amount leaves project k measure)

  -- ---- a removal

  -- the key of the target finds the target
  target-dropped : (old : Instance) → instance_named s.instances o.work.project o.work.target.name ≡ Some old → (project : List ℕ) (k : Measure)
      → sum_by (instance_part s project k) s.instances ≡ instance_part s project k old + sum_by (instance_part s project k) (without old s.instances)
  target-dropped old found project k = sum_by-Puts (instance_part s project k) (dropped-Puts (λ r. has_key (two_names old.project old.name) (row.Instance r)) old s.instances
      (find-alike s.instances (record { at = alike }) ∙ found)) where
        names : (old.project ≡ o.work.project) × (old.name ≡ o.work.target.name)
        names = instance-found s.instances o.work.project o.work.target.name old found

        there : Mem old s.instances
        there = (find-some (is_instance o.work.project o.work.target.name) s.instances old found).0

        alike : (y : Instance) → Mem y s.instances → has_key (two_names old.project old.name) (row.Instance y) ≡ is_instance o.work.project o.work.target.name y
        alike y m = by (is_instance o.work.project o.work.target.name y) refl where
          by : (so : Bool) → is_instance o.work.project o.work.target.name y ≡ so → has_key (two_names old.project old.name) (row.Instance y) ≡ so
          by true is =
              let y_names = instance-so o.work.project o.work.target.name y is in
              ap (λ p. bytes_eq (two_names p y.name) (two_names old.project old.name)) (y_names.0 ∙ sym names.0)
              ∙ ap (λ n. bytes_eq (two_names old.project n) (two_names old.project old.name)) (y_names.1 ∙ sym names.1)
              ∙ bytes_eq-itself (two_names old.project old.name)
          by false is = fails-by (has_key (two_names old.project old.name) (row.Instance y)) (λ hit.
              let key = instance-key old y (h.names.good.at (row.Instance old) (instance-row s old there)) (h.names.good.at (row.Instance y) (instance-row s y m)) hit in
              let so : is_instance o.work.project o.work.target.name y ≡ true =
              ap (λ p. bytes_eq p o.work.project && bytes_eq y.name o.work.target.name) (key.0 ∙ names.0)
              ∙ ap (λ q. q && bytes_eq y.name o.work.target.name) (bytes_eq-itself o.work.project)
              ∙ ap (λ n. bytes_eq n o.work.target.name) (key.1 ∙ names.1) ∙ bytes_eq-itself o.work.target.name in
              false≢true (sym is ∙ so))

        find-alike : {p q : Instance → Bool} (xs : List Instance) → Each (λ y. p y ≡ q y) xs → find p xs ≡ find q xs
        find-alike [] e = refl
        find-alike {p} {q} (y ∷ ys) e = ap (λ t. cond t (Some y) (find p ys)) (Each-head e) ∙ ap (λ r. cond (q y) (Some y) r) (find-alike ys (Each-tail e))

  removed-used : removes o.work.deed ≡ true → (old : Instance) → instance_named s.instances o.work.project o.work.target.name ≡ Some old
      → (project : List ℕ) (k : Measure) → used_by s project k ≡ used_by next project k + instance_part s project k old
  removed-used goes old found project k =
      let rows = removing-rows s start o.work o.work.deed old goes found (power-tables o.work (power_after s o.work) s) in
      let all = success-with (record (tables s) { instances = without old s.instances }) rows project k in
      omega (arith, all, target-dropped old found project k, unclaimed (claimed-none (removing-claims o.work.deed goes).0) project k)

  -- what it counted for
  removed-fall : (old : Instance) → instance_named s.instances o.work.project o.work.target.name ≡ Some old → o.work.claim ≡ None
      → (k : Measure) → IsMeasure k → k (fall_of s o.work).amounts (fall_of s o.work).on ≡ k (amounts_of_instance s old) (part_of_instance s old)
  removed-fall old found claim k measure =
      let fall : fall_of s o.work ≡ footprint_above (instance_footprint s old) no_footprint =
      ap (λ found_one. option_map_or (λ x. footprint_above (instance_footprint s x) (option_map_or (instance_footprint s) (claimed_instance o.work) no_footprint)) found_one no_footprint) found
      ∙ ap (λ c. footprint_above (instance_footprint s old) (option_map_or (instance_footprint s) (claimed_instance (record o.work { claim = c })) no_footprint)) claim in
      let counts = ap (λ (f : Footprint). k f.amounts f.on) fall in
      let above = measure.excess (amounts_of_instance s old) nothing (part_of_instance s old) no_part in
      omega (arith, counts, above, none-measure k measure)

  removed-next : removes o.work.deed ≡ true → Falls s next o.work.project (fall_of s o.work)
  removed-next goes = falls-measured s next o.work.project (fall_of s o.work) own others where
    claims : (claim_kind o.work.deed ≡ None) × ((has_target o.work.deed ≡ true) × (target_kind o.work.deed ≡ kind.Instance))
    claims = removing-claims o.work.deed goes

    there : (old : Instance) × (instance_named s.instances o.work.project o.work.target.name ≡ Some old)
    there = there-is (instance_named s.instances o.work.project o.work.target.name)
        (subst (λ k. instance_there s o.work.project (record o.work.target { kind = k })) (deeds.target ∙ claims.1.1) (placed.target claims.1.0))

    old_project : there.0.project ≡ o.work.project
    old_project = (instance-found s.instances o.work.project o.work.target.name there.0 there.1).0

    old_counts : Measure → ℕ
    old_counts k = k (amounts_of_instance s there.0) (part_of_instance s there.0)

    own : (k : Measure) → IsMeasure k
        → used_by s o.work.project k ≡ used_by next o.work.project k + k (fall_of s o.work).amounts (fall_of s o.work).on
    own k measure =
        let old_is : instance_part s o.work.project k there.0 ≡ old_counts k =
        ap (λ b. cond b (old_counts k) 0) (ap (λ p. bytes_eq p o.work.project) old_project ∙ bytes_eq-itself o.work.project) in
        omega (
          arith,
          removed-used goes there.0 there.1 o.work.project k,
          old_is,
          removed-fall there.0 there.1 (claimed-none claims.0) k measure,
        )

    others : (other : List ℕ) → o.work.project ≢ other → (k : Measure) → IsMeasure k → used_by next other k ≡ used_by s other k
    others other apart k measure =
        let fails : bytes_eq o.work.project other ≡ false = fails-by (bytes_eq o.work.project other) (λ is. apart (same o.work.project other is)) in
        let old_is : instance_part s other k there.0 ≡ 0 =
        ap (λ b. cond b (old_counts k) 0) (ap (λ p. bytes_eq p other) old_project ∙ fails) in
        omega (arith, removed-used goes there.0 there.1 other k, old_is)

  -- ---- what each makes of usage

  pub made-usage : makes_instance o.work.deed ≡ true → SameUsage s (succeeded s o moment)
  unfolding succeeded
  made-usage makes = made-next makes

  pub left-usage : leaves_rows o.work.deed ≡ true → SameUsage s (succeeded s o moment)
  unfolding succeeded
  left-usage leaves = left-next leaves

  pub removed-usage : removes o.work.deed ≡ true → Falls s (succeeded s o moment) o.work.project (fall_of s o.work)
  unfolding succeeded
  removed-usage goes = removed-next goes

-- a change of an instance
pub changed-usage : (s : State) (o : Operation Task) (moment : ℕ) → IsLastDone s o → keeps_name o.work.deed ≡ true
    → Falls s (succeeded s o moment) o.work.project (fall_of s o.work)
changed-usage s o moment h keeps = record {
  own = λ k. l.own k ∙ ap (λ n. part k (usage_of (succeeded s o moment) o.work.project) + n) (parts-fall k);
  others = λ other apart. same-parts _ _ (λ k. l.others other (λ e. apart (sym e)) k);
  own_pools = λ pool. l.own_pools pool ∙ ap (λ n. used_on (succeeded s o moment) o.work.project pool + n) (pools-fall pool);
  other_pools = λ other apart pool. l.other_pools other (λ e. apart (sym e)) pool;
} where
  l : LowersUsage s (succeeded s o moment) o
  l = lowers s o moment h keeps

  fall : fall_of s o.work ≡ footprint_above (instance_footprint s l.old) (instance_footprint s l.new)
  fall =
      ap (λ found_one. option_map_or (λ x. footprint_above (instance_footprint s x) (option_map_or (instance_footprint s) (claimed_instance o.work) no_footprint)) found_one no_footprint) l.stands
      ∙ ap (λ c. footprint_above (instance_footprint s l.old) (option_map_or (instance_footprint s) c no_footprint)) l.claimed

  parts-fall : (k : Part) → part k (minus_of (amounts_of_instance s l.old) (amounts_of_instance s l.new)) ≡ part k (fall_of s o.work).amounts
  parts-fall k =
      part-minus k (amounts_of_instance s l.old) (amounts_of_instance s l.new)
      ∙ sym (part-excess k (amounts_of_instance s l.old) (amounts_of_instance s l.new))
      ∙ sym (ap (λ (f : Footprint). part k f.amounts) fall)

  pools-fall : (pool : List ℕ) → on_pool pool (part_of_instance s l.old) - on_pool pool (part_of_instance s l.new) ≡ on_pool pool (fall_of s o.work).on
  pools-fall pool =
      sym ((pool-measure pool).excess (amounts_of_instance s l.old) (amounts_of_instance s l.new) (part_of_instance s l.old) (part_of_instance s l.new))
      ∙ sym (ap (λ (f : Footprint). on_pool pool f.on) fall)

-- ---- by deed

pub leaves-usage : (s : State) (o : Operation Task) (moment : ℕ) → IsWhole s → live_at s.operations o.number ≡ Some o → leaves_usage o.work.deed ≡ true
    → SameUsage s (succeeded s o moment)
leaves-usage s o moment h live leaves = by (makes_instance o.work.deed) refl where
  by : (b : Bool) → makes_instance o.work.deed ≡ b → SameUsage s (succeeded s o moment)
  by true makes = made-usage s o moment h live makes
  by false not = left-usage s o moment h live (either o.work.deed leaves not) where
    either : (d : Deed) → leaves_usage d ≡ true → makes_instance d ≡ false → leaves_rows d ≡ true
    either deed.Create l n = absurd (cc)
    either deed.Copy l n = absurd (cc)
    either deed.Snap l n = refl
    either deed.Unsnap l n = refl
    either (deed.Act action.Stop false) l n = refl
    either (deed.Act action.Stop true) l n = absurd (cc)
    either (deed.Act action.Start e) l n = refl
    either (deed.Act action.Restart e) l n = refl
    either (deed.Act action.Freeze e) l n = refl
    either (deed.Act action.Unfreeze e) l n = refl
    either deed.Update l n = absurd (cc)
    either deed.Restore l n = absurd (cc)
    either deed.Rename l n = absurd (cc)
    either deed.Delete l n = absurd (cc)
    either deed.CopyVolume l n = absurd (cc)

pub lowers-usage : (s : State) (o : Operation Task) (moment : ℕ) → IsLastDone s o → has_fall o.work.deed ≡ true
    → Falls s (succeeded s o moment) o.work.project (fall_of s o.work)
lowers-usage s o moment h falls = by (keeps_name o.work.deed) refl where
  by : (b : Bool) → keeps_name o.work.deed ≡ b → Falls s (succeeded s o moment) o.work.project (fall_of s o.work)
  by true keeps = changed-usage s o moment h keeps
  by false not = removed-usage s o moment h.whole h.live (either o.work.deed falls not) where
    either : (d : Deed) → has_fall d ≡ true → keeps_name d ≡ false → removes d ≡ true
    either deed.Delete l n = refl
    either (deed.Act action.Stop true) l n = refl
    either (deed.Act action.Stop false) l n = absurd (cc)
    either (deed.Act action.Start e) l n = absurd (cc)
    either (deed.Act action.Restart e) l n = absurd (cc)
    either (deed.Act action.Freeze e) l n = absurd (cc)
    either (deed.Act action.Unfreeze e) l n = absurd (cc)
    either deed.Create l n = absurd (cc)
    either deed.Copy l n = absurd (cc)
    either deed.Update l n = absurd (cc)
    either deed.Restore l n = absurd (cc)
    either deed.Rename l n = absurd (cc)
    either deed.Snap l n = absurd (cc)
    either deed.Unsnap l n = absurd (cc)
    either deed.CopyVolume l n = absurd (cc)
