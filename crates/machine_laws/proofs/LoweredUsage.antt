-- An update or a restore that succeeds lowers usage by exactly the parts in which the new row lies below the old one.
use Rattle.std.proofs.Common.{◌≡◌, ◌≢◌, ℕ, ◌+◌, ◌-◌, ◌≤◌, true, false, cond, Some, None, List, [], ◌∷◌, ◌⊎◌, refl, sym, ◌∙◌, ap, subst, arith, inl, inr}
use Rattle.std.specs.Prelude.{map, is_some, IfSome}
use Rattle.std.specs.List.{sum_by}
use Rattle.std.specs.Option.{option_map, option_and_then, option_to_list}
use Rattle.std.specs.Str.{bytes_eq}
use Rattle.plain_lists.specs.Members.{Mem, Each}
use Rattle.plain_lists.specs.Edits.{dropped}
use Rattle.plain_lists.proofs.PutsLemmas.{sum_by-Puts}
use Rattle.plain_lists.proofs.EditLemmas.{dropped-Puts}
use Rattle.plain_lists.proofs.Readings.{sum_by-same}
use Rattle.plain_lists.proofs.Searches.{find-some}
use Rattle.config_lists.proofs.Keys.{same, bytes_eq-itself}
use Rattle.size_values.specs.Amounts.{part, minus_of, excess_of}
use Rattle.size_values.specs.declared.amounts.Part.{Part}
use Rattle.size_values.specs.declared.amounts.Part.TheVariants.{Instances, Containers, Machines, Cpu, Memory, Processes, Disk}
use Rattle.size_values.specs.PoolParts.{on_pool, part_above}
use Rattle.size_values.proofs.AmountParts.{part-minus}
use Rattle.size_values.specs.declared.kinds.Deed.{Deed}
use Rattle.size_values.specs.declared.kinds.Deed.TheVariants as deed
use Rattle.size_values.specs.declared.kinds.ObjectKind.TheVariants as kind
use Rattle.host_model.specs.declared.report.Report.TheVariants as report
use Rattle.operations.specs.declared.operation.Operation.{Operation}
use Rattle.operations.specs.declared.operation.OpFault.TheVariants as fault
use Rattle.operations.specs.declared.status.Status.TheVariants as status
use Rattle.operations.specs.OperationTable.{has_number}
use Rattle.records.specs.declared.commands.Target.{Target}
use Rattle.records.specs.declared.notices.Notice.{Notice}
use Rattle.records.specs.declared.rows.Instance.{Instance}
use Rattle.records.specs.declared.rows.Row.TheVariants as row
use Rattle.row_machine.specs.declared.changes.RowChange.{RowChange}
use Rattle.row_machine.specs.declared.changes.RowChange.TheVariants as change
use Rattle.row_machine.specs.declared.events.Event.TheVariants as event
use Rattle.row_machine.specs.machine.Task.{Task}
use Rattle.row_machine.specs.machine.State.{State}
use Rattle.row_machine.specs.machine.Rows.{is_instance, instance_named, instance_names, with_instance, texts_before}
use Rattle.row_machine.specs.machine.Changes.{applied}
use Rattle.row_machine.specs.machine.Claims.{claimed_instance, replaced_instance, amounts_of_instance, part_of_instance, share_of, part_of_share}
use Rattle.row_machine.specs.shown.Urls.{target_of}
use Rattle.row_machine.specs.machine.Usage.{loads, used, used_on, usage_of}
use Rattle.row_machine.specs.shown.Notices.{telling, success_notices, operation_notice}
use Rattle.row_machine.specs.machine.Accept.{After}
use Rattle.row_machine.specs.machine.Step.{well, step, success, committed, done, reported, call_done}
use Rattle.row_machine.specs.machine.Operations.{converted, ended, succeeded, success_changes, with_power_after, power_after}
use Rattle.row_machine.specs.facts.Whole.{IsByDeed, IsPlaced}
use Rattle.row_machine.specs.machine.Deeds.{keeps_name, replaces_target, claim_kind}
use Rattle.machine_laws.specs.Lowered.{IsLastDone, LowersUsage, RaisesNothing, UpdatesLower, SuccessesRaiseNothing}
use Rattle.machine_laws.proofs.Measures.{Measure, IsMeasure, used_by, by_part, by_pool, part-measure, pool-measure}
use Rattle.machine_laws.proofs.SharesAlike.{HoldsAlike}
use Rattle.machine_laws.proofs.ExpansionsApart.{fails-by}
use Rattle.machine_laws.proofs.BooksSteps.{applied-same, power-keeps, telling-keeps}
use Rattle.machine_laws.proofs.Found.{there-is, instance-found, some-is}
use Rattle.machine_laws.proofs.LimitsEnds.{share_part, excess-part, claims-same, instance-same, used-done}
use Rattle.machine_laws.proofs.LimitsRows.{Tables, tables, IsDone, with-instance}
use Rattle.machine_laws.proofs.LimitsSuccess.{success-rows, power-tables, ClaimsInstance, none, some, claims-instance}
use Rattle.machine_laws.proofs.LimitsSums.{instance_part, volume_part, claim_part, used-split, sum-instead}
use Rattle.machine_laws.proofs.SharesApart.{Replaces, replaces-or_not}
use Rattle.machine_laws.proofs.SharesSuccess.{share-done, counts-tables}

-- ---- usage, part by part

part-used : (s : State) (project : List ℕ) (k : Part) → part k (usage_of s project) ≡ used s project k
unfolding usage_of
part-used s project Instances = refl
part-used s project Containers = refl
part-used s project Machines = refl
part-used s project Cpu = refl
part-used s project Memory = refl
part-used s project Processes = refl
part-used s project Disk = refl

-- a fact on usage alone that notices leave
usage-notices : (s : State) (notices : List Notice) (next : ℕ) (project : List ℕ) → usage_of (record s { notices = notices; next_notice = next }) project ≡ usage_of s project
unfolding usage_of loads share_of amounts_of_instance part_of_share part_of_instance
usage-notices s notices next project = refl

pools-notices : (s : State) (notices : List Notice) (next : ℕ) (project pool : List ℕ) → used_on (record s { notices = notices; next_notice = next }) project pool ≡ used_on s project pool
unfolding loads share_of amounts_of_instance part_of_share part_of_instance
pools-notices s notices next project pool = refl

-- ---- the last call is done

committed-well : (s : State) (o : Operation Task) (moment : ℕ) (cs : List RowChange) → committed s o moment well cs ≡ Some (success s o moment)
committed-well s o moment [] = refl
committed-well s o moment (c ∷ cs) = refl

last-done : (s : State) (o : Operation Task) (moment : ℕ) → IsLastDone s o → step s (event.Done o.number report.Done moment) well ≡ Some (success s o moment)
unfolding step
last-done s o moment h =
    ap (done s o.number report.Done moment well) h.live
    ∙ ap (reported s o report.Done moment well) h.running
    ∙ ap (call_done s o moment well) h.calls
    ∙ committed-well s o moment (success_changes s o.work)

-- the state after it
module _ (s : State) (o : Operation Task) (moment : ℕ) (h : IsLastDone s o) where
  o_live : Mem o s.operations.live
  o_live = (find-some (has_number o.number) s.operations.live o h.live).0

  deeds : IsByDeed o.work
  deeds = h.whole.operations.deeds.at o o_live

  placed : IsPlaced s o.work
  placed = h.whole.references.operations.at o o_live

  abbrev powered : State
  powered = with_power_after o.work (power_after s o.work) s

  abbrev next : State
  next = converted o.number (ended o.number status.Success fault.None moment (applied (with_power_after o.work (power_after s o.work) s) (success_changes s o.work)))

  done-rows : IsDone (tables s) o.work (tables next)
  done-rows = success-rows s o.work (power_after s o.work) deeds

  rest : next.operations.live ≡ dropped (has_number o.number) s.operations.live
  rest = ap (λ k. dropped (has_number o.number) k.live) ((applied-same (success_changes s o.work) powered).operations
      ∙ power-keeps (λ t. t.operations ≡ s.operations) (λ t powers e. e) o.work (power_after s o.work) s refl)

  shares : Each (λ (x : Operation Task). HoldsAlike s next x.work) (dropped (has_number o.number) s.operations.live)
  shares = record { at = λ x m. share-done s o x next h.whole h.live m done-rows }

  pub raises-nothing : RaisesNothing s (succeeded s o moment)
  unfolding succeeded
  raises-nothing = record {
    parts = λ project k.
        let less : used next project k ≤ used s project k = used-done s o next h.whole h.live done-rows rest shares project (by_part k) (part-measure k) in
        let before = part-used s project k in
        let after = part-used next project k in
        omega (arith, less, before, after);
    pools = λ project pool. used-done s o next h.whole h.live done-rows rest shares project (by_pool pool) (pool-measure pool);
  }

-- ---- an update or a restore

keeps-replaces : (d : Deed) → keeps_name d ≡ true → (replaces_target d ≡ true) × ((claim_kind d ≡ Some kind.Instance) × (d ≢ deed.Rename))
keeps-replaces deed.Update h = (refl, (refl, λ e. cc))
keeps-replaces deed.Restore h = (refl, (refl, λ e. cc))
keeps-replaces deed.Create h = absurd (cc)
keeps-replaces deed.Copy h = absurd (cc)
keeps-replaces deed.Rename h = absurd (cc)
keeps-replaces deed.Delete h = absurd (cc)
keeps-replaces (deed.Act a e) h = absurd (cc)
keeps-replaces deed.Snap h = absurd (cc)
keeps-replaces deed.Unsnap h = absurd (cc)
keeps-replaces deed.CopyVolume h = absurd (cc)

-- the claimed row is put
kept-rows : (s start : State) (task : Task) (d : Deed) (new : Instance) → keeps_name d ≡ true → task.claim ≡ Some (row.Instance new) → tables start ≡ tables s
    → tables (applied start (success_changes s (record task { deed = d }))) ≡ record (tables s) { instances = with_instance new s.instances }
kept-rows s start task deed.Update new h is same = ap (λ c. tables (applied start (map change.Put (option_to_list c)))) is ∙ with-instance new start (tables s) same
kept-rows s start task deed.Restore new h is same = ap (λ c. tables (applied start (map change.Put (option_to_list c)))) is ∙ with-instance new start (tables s) same
kept-rows s start task deed.Create new h is same = absurd (cc)
kept-rows s start task deed.Copy new h is same = absurd (cc)
kept-rows s start task deed.Rename new h is same = absurd (cc)
kept-rows s start task deed.Delete new h is same = absurd (cc)
kept-rows s start task (deed.Act a e) new h is same = absurd (cc)
kept-rows s start task deed.Snap new h is same = absurd (cc)
kept-rows s start task deed.Unsnap new h is same = absurd (cc)
kept-rows s start task deed.CopyVolume new h is same = absurd (cc)

-- what is replaced, and by what
pub record IsReplacement (s : State) (o : Operation Task) : Type 0 where
  pub old : Instance
  pub new : Instance
  pub stands : instance_named s.instances o.work.project o.work.target.name ≡ Some old
  pub claim : o.work.claim ≡ Some (row.Instance new)
  pub claimed : claimed_instance o.work ≡ Some new
  pub replaced : replaced_instance s o.work ≡ Some old
  pub project : new.project ≡ o.work.project
  pub name : new.name ≡ o.work.target.name

module _ (s : State) (o : Operation Task) (moment : ℕ) (h : IsLastDone s o) (keeps : keeps_name o.work.deed ≡ true) where
  by_deed : IsByDeed o.work
  by_deed = deeds s o moment h

  replacement : IsReplacement s o
  replacement = at (claims-instance o.work (by_deed.kind ∙ (keeps-replaces o.work.deed keeps).1.0)) where
    names : o.work.replaces ≡ Some (o.work.project, o.work.target.name)
    names = by_deed.replaces ∙ ap (λ b. cond b (Some (o.work.project, o.work.target.name)) None) (keeps-replaces o.work.deed keeps).0

    there : Replaces s o.work ⊎ (o.work.replaces ≡ None) → is_some (instance_named s.instances o.work.project o.work.target.name) ≡ true
    there (inl r) = r.there
    there (inr nothing) = absurd (let e : Some (o.work.project, o.work.target.name) ≡ None = sym names ∙ nothing in cc)

    found : (x : Instance) × (instance_named s.instances o.work.project o.work.target.name ≡ Some x)
    found = there-is (instance_named s.instances o.work.project o.work.target.name) (there (replaces-or_not s o.work by_deed (placed s o moment h)))

    at : ClaimsInstance o.work → IsReplacement s o
    at (none is) = absurd (let e : None ≡ Some kind.Instance = sym (ap (option_map (λ r. (target_of r).kind)) is) ∙ by_deed.kind ∙ (keeps-replaces o.work.deed keeps).1.0 in cc)
    at (some new is claimed) = record {
      old = found.0;
      new = new;
      stands = found.1;
      claim = is;
      claimed = claimed;
      replaced = ap (option_and_then (λ (n : List ℕ × List ℕ). instance_named s.instances n.0 n.1)) names ∙ found.1;
      project = (placed s o moment h).claim_project (row.Instance new) is;
      name = ap (λ (t : Target). t.name) (subst (λ c. IfSome c (λ r. target_of r ≡ o.work.target)) is (by_deed.named (keeps-replaces o.work.deed keeps).1.1));
    }

  -- all that counts, before and after
  module _ (r : IsReplacement s o) (project : List ℕ) (k : Measure) where
    after-split : used_by (next s o moment h) project k + instance_part s project k r.old + claim_part s project k o ≡ used_by s project k + instance_part s project k r.new
    after-split =
        let before = used-split s project k in
        let after = used-split (next s o moment h) project k in
        let rows : tables (next s o moment h) ≡ record (tables s) { instances = with_instance r.new s.instances } =
        kept-rows s (powered s o moment h) o.work o.work.deed r.new keeps r.claim (power-tables o.work (power_after s o.work) s) in
        let claims : sum_by (claim_part s project k) s.operations.live ≡ claim_part s project k o + sum_by (claim_part s project k) (dropped (has_number o.number) s.operations.live) =
        sum_by-Puts (claim_part s project k) (dropped-Puts (has_number o.number) o s.operations.live h.live) in
        let others : sum_by (claim_part (next s o moment h) project k) (next s o moment h).operations.live ≡ sum_by (claim_part s project k) (dropped (has_number o.number) s.operations.live) =
        ap (sum_by (claim_part (next s o moment h) project k)) (rest s o moment h)
        ∙ claims-same s (next s o moment h) project k (dropped (has_number o.number) s.operations.live) (shares s o moment h) in
        let volumes : sum_by (volume_part project k) (next s o moment h).volumes ≡ sum_by (volume_part project k) s.volumes = ap (λ (t : Tables). sum_by (volume_part project k) t.volumes) rows in
        let same_parts : sum_by (instance_part (next s o moment h) project k) (next s o moment h).instances ≡ sum_by (instance_part s project k) (next s o moment h).instances =
        sum_by-same (instance_part (next s o moment h) project k) (instance_part s project k) (next s o moment h).instances
        (record {
          at = λ i m. instance-same s (next s o moment h) project k i
              (counts-tables s (next s o moment h) i (ap (λ (t : Tables). t.projects) rows) (ap (λ (t : Tables). t.profiles) rows));
        }) in
        let instances : sum_by (instance_part s project k) (next s o moment h).instances ≡ sum_by (instance_part s project k) (with_instance r.new s.instances) =
        ap (λ (t : Tables). sum_by (instance_part s project k) t.instances) rows in
        let instead = sum-instead (instance_part s project k) (is_instance r.new.project r.new.name) (λ y. texts_before (instance_names r.new) (instance_names y)) r.new r.old s.instances
        (ap (λ p. instance_named s.instances p r.new.name) r.project ∙ ap (λ n. instance_named s.instances o.work.project n) r.name ∙ r.stands) in
        omega (arith, before, after, claims, others, volumes, same_parts, instances, instead)

    held : claim_part s project k o
        ≡ share_part project k (row.Instance r.new) (excess_of (amounts_of_instance s r.new) (amounts_of_instance s r.old)) (part_above (part_of_instance s r.new) (part_of_instance s r.old))
    held = excess-part s project k o r.new r.old r.claim r.replaced
        ((instance-found s.instances o.work.project o.work.target.name r.old r.stands).0 ∙ sym r.project)

  -- of its own project, the parts in which the new row lies below the old one; of the others nothing
  lowers-next : LowersUsage s (next s o moment h) o
  lowers-next = record {
    old = r.old;
    new = r.new;
    stands = r.stands;
    claimed = r.claimed;
    own = λ k.
        let by = own (by_part k) (part-measure k) in
        let below = part-minus k (amounts_of_instance s r.old) (amounts_of_instance s r.new) in
        let before = part-used s o.work.project k in
        let after = part-used (next s o moment h) o.work.project k in
        let all : used s o.work.project k ≡ used (next s o moment h) o.work.project k + (part k (amounts_of_instance s r.old) - part k (amounts_of_instance s r.new)) = by in
        omega (arith, all, below, before, after);
    others = λ project other k. part-used (next s o moment h) project k ∙ others project other (by_part k) ∙ sym (part-used s project k);
    own_pools = λ pool. own (by_pool pool) (pool-measure pool);
    other_pools = λ project other pool. others project other (by_pool pool);
  } where
    r : IsReplacement s o
    r = replacement

    old_project : r.old.project ≡ o.work.project
    old_project = (instance-found s.instances o.work.project o.work.target.name r.old r.stands).0

    new_counts : Measure → ℕ
    new_counts k = k (amounts_of_instance s r.new) (part_of_instance s r.new)

    old_counts : Measure → ℕ
    old_counts k = k (amounts_of_instance s r.old) (part_of_instance s r.old)

    above : Measure → ℕ
    above k = k (excess_of (amounts_of_instance s r.new) (amounts_of_instance s r.old)) (part_above (part_of_instance s r.new) (part_of_instance s r.old))

    own : (k : Measure) → IsMeasure k → used_by s o.work.project k ≡ used_by (next s o moment h) o.work.project k
        + (k (amounts_of_instance s r.old) (part_of_instance s r.old) - k (amounts_of_instance s r.new) (part_of_instance s r.new))
    own k measure =
        let new_is : instance_part s o.work.project k r.new ≡ new_counts k =
        ap (λ b. cond b (new_counts k) 0) (ap (λ p. bytes_eq p o.work.project) r.project ∙ bytes_eq-itself o.work.project) in
        let old_is : instance_part s o.work.project k r.old ≡ old_counts k =
        ap (λ b. cond b (old_counts k) 0) (ap (λ p. bytes_eq p o.work.project) old_project ∙ bytes_eq-itself o.work.project) in
        let held_is : claim_part s o.work.project k o ≡ new_counts k - old_counts k =
        held r o.work.project k
        ∙ ap (λ b. cond b (above k) 0) (ap (λ p. bytes_eq p o.work.project) r.project ∙ bytes_eq-itself o.work.project)
        ∙ measure.excess (amounts_of_instance s r.new) (amounts_of_instance s r.old) (part_of_instance s r.new) (part_of_instance s r.old) in
        let split = after-split r o.work.project k in
        omega (arith, new_is, old_is, held_is, split)

    others : (project : List ℕ) → project ≢ o.work.project → (k : Measure) → used_by (next s o moment h) project k ≡ used_by s project k
    others project other k =
        let fails : bytes_eq o.work.project project ≡ false = fails-by (bytes_eq o.work.project project) (λ is. other (sym (same o.work.project project is))) in
        let new_is : instance_part s project k r.new ≡ 0 =
        ap (λ b. cond b (new_counts k) 0) (ap (λ p. bytes_eq p project) r.project ∙ fails) in
        let old_is : instance_part s project k r.old ≡ 0 =
        ap (λ b. cond b (old_counts k) 0) (ap (λ p. bytes_eq p project) old_project ∙ fails) in
        let held_is : claim_part s project k o ≡ 0 =
        held r project k
        ∙ ap (λ b. cond b (above k) 0) (ap (λ p. bytes_eq p project) r.project ∙ fails) in
        let split = after-split r project k in
        omega (arith, new_is, old_is, held_is, split)

  pub lowers : LowersUsage s (succeeded s o moment) o
  unfolding succeeded
  lowers = lowers-next

-- ---- over a step

-- usage is the same after notices
lowers-notices : (s : State) (o : Operation Task) (t : State) (notices : List Notice) (n : ℕ) → LowersUsage s t o → LowersUsage s (record t { notices = notices; next_notice = n }) o
lowers-notices s o t notices n l = record {
  old = l.old;
  new = l.new;
  stands = l.stands;
  claimed = l.claimed;
  own = λ k. l.own k ∙ ap (λ u. part k u + part k (minus_of (amounts_of_instance s l.old) (amounts_of_instance s l.new))) (sym (usage-notices t notices n o.work.project));
  others = λ project other k. ap (part k) (usage-notices t notices n project) ∙ l.others project other k;
  own_pools = λ pool. l.own_pools pool
      ∙ ap (λ u. u + (on_pool pool (part_of_instance s l.old) - on_pool pool (part_of_instance s l.new))) (sym (pools-notices t notices n o.work.project pool));
  other_pools = λ project other pool. pools-notices t notices n project pool ∙ l.other_pools project other pool;
}

-- a fact that notices leave, of the state after the step
after-step : (F : State → Type 0) → ((t : State) (notices : List Notice) (n : ℕ) → F t → F (record t { notices = notices; next_notice = n }))
    → (s : State) (o : Operation Task) (moment : ℕ) (after : After) → IsLastDone s o → step s (event.Done o.number report.Done moment) well ≡ Some after
    → F (succeeded s o moment) → F after.state
after-step F keeps s o moment after h is holds =
    subst (λ (a : After). F a.state) (some-is (sym (last-done s o moment h) ∙ is))
    (telling-keeps F keeps (operation_notice (telling (success_notices o.work moment) (succeeded s o moment)) o.number moment) (telling (success_notices o.work moment) (succeeded s o moment))
    (telling-keeps F keeps (success_notices o.work moment) (succeeded s o moment) holds))

pub updates-lower : UpdatesLower
updates-lower s o moment after h keeps is = after-step (λ t. LowersUsage s t o) (lowers-notices s o) s o moment after h is (lowers s o moment h keeps)

-- and so is that nothing was raised
raises-notices : (s t : State) (notices : List Notice) (n : ℕ) → RaisesNothing s t → RaisesNothing s (record t { notices = notices; next_notice = n })
raises-notices s t notices n less = record {
  parts = λ project k. subst (λ u. part k u ≤ part k (usage_of s project)) (sym (usage-notices t notices n project)) (less.parts project k);
  pools = λ project pool. subst (λ u. u ≤ used_on s project pool) (sym (pools-notices t notices n project pool)) (less.pools project pool);
}

pub successes-raise_nothing : SuccessesRaiseNothing
successes-raise_nothing s o moment after h is = after-step (RaisesNothing s) (raises-notices s) s o moment after h is (raises-nothing s o moment h)
