-- The rows that a success puts may be put, by its deed; and names after it.
use Rattle.std.proofs.Common.{◌≡◌, ◌≢◌, ℕ, true, false, cond, Option, Some, None, List, [], ◌∷◌, ◌++◌, map, refl, sym, ap, subst, ◌∙◌}
use Rattle.std.specs.Str.{bytes_eq}
use Rattle.std.specs.Option.{option_map_or, option_to_list}
use Rattle.plain_lists.specs.Members.{Mem, Each}
use Rattle.plain_lists.proofs.Elements.{Mem-from_map, Each-none, Each-cons, Each-left, Each-right}
use Rattle.plain_lists.proofs.Searches.{find-some}
use Rattle.plain_lists.proofs.EditLemmas.{dropped-Puts}
use Rattle.size_values.specs.declared.kinds.Action.TheVariants as action
use Rattle.size_values.specs.declared.kinds.Deed.{Deed}
use Rattle.size_values.specs.declared.kinds.Deed.TheVariants as deed
use Rattle.size_values.specs.declared.kinds.Power.{Power}
use Rattle.operations.specs.declared.operation.Operation.{Operation}
use Rattle.operations.specs.declared.operation.OpFault.TheVariants as op_fault
use Rattle.operations.specs.declared.status.Status.TheVariants as status
use Rattle.operations.specs.OperationTable.{OperationTable, has_number, live_at}
use Rattle.operations.specs.OperationTable as kept
use Rattle.records.specs.declared.rows.Instance.{Instance}
use Rattle.records.specs.declared.rows.Snapshot.{Snapshot}
use Rattle.records.specs.declared.rows.Row.{Row}
use Rattle.records.specs.declared.rows.Row.TheVariants as row
use Rattle.row_codec.specs.Rows.{HasGoodKey, HasMoments}
use Rattle.row_machine.specs.declared.changes.RowChange.{RowChange}
use Rattle.row_machine.specs.machine.Task.{Task}
use Rattle.row_machine.specs.machine.State.{State}
use Rattle.row_machine.specs.machine.Rows.{instance_named, snapshot_named, instance_names}
use Rattle.row_machine.specs.machine.Asked.{snapshots_of}
use Rattle.row_machine.specs.machine.Changes.{applied, rows_put}
use Rattle.row_machine.specs.machine.Claims.{of_live, claimed_instance, claimed_snapshot}
use Rattle.row_machine.specs.machine.Operations.{success_changes, removes_instance, renames_instance, power_after, with_power_after, ended, succeeded}
use Rattle.row_machine.specs.facts.Whole.{IsWhole, AreNamed, IsPlaced, claims_of, new_instance}
use Rattle.row_machine.specs.machine.Deeds.{keeps_name}
use Rattle.machine_laws.proofs.NamesRows.{EachRow, each-row}
use Rattle.machine_laws.proofs.NamesPut.{IsUnclaimed}
use Rattle.machine_laws.proofs.NamesLive.{read_of}
use Rattle.machine_laws.proofs.NamesApplied.{IsReady, AreNamed-applied, puts-each, removals-each, removals-none, applied-aside, applied-operations}
use Rattle.machine_laws.proofs.NamesEnds.{AreNamed-power_after, AreNamed-ended, AreNamed-converted}
use Rattle.machine_laws.proofs.NamesSuccess.{IsEnding, is-ending, claim-ready, new-free, same-free, no-snapshot, Mem-filter}

-- a snapshot that goes with its instance to another name
abbrev pub gone_along : Instance → Snapshot → Row
gone_along i r = row.Snapshot (record r { instance = i.name; project = i.project })

-- each snapshot of the instance may be put under the new name
along-ready : (s : State) (k : OperationTable Task) (task : Task) (i : Instance) → AreNamed s → Each (λ o. IsPlaced s o.work) s.operations.live → IsEnding s k task
    → HasGoodKey (row.Instance i) → Each (λ z. instance_names z ≢ instance_names i) s.instances → (rs : List Snapshot) → Each (λ r. Mem r s.snapshots) rs
    → Each (IsReady k) (map (gone_along i) rs)
along-ready s k task i h placed e good fresh rs there = record { at = λ x m. by x (Mem-from_map (gone_along i) x rs m) } where
  goods : EachRow HasGoodKey s
  goods = each-row s (Each-left (claims_of s) h.good)

  moments : EachRow HasMoments s
  moments = each-row s (Each-left (claims_of s) h.moments)

  free : Each (λ y. y.project ∷ y.instance ∷ [] ≢ i.project ∷ i.name ∷ []) (of_live claimed_snapshot s)
  free = no-snapshot s i.project i.name placed fresh

  unclaimed : (r : Snapshot) → IsUnclaimed k (gone_along i r)
  unclaimed r = record { at = λ y m same. free.at y (e.snapshots.at y m) (let first : y.project ≡ i.project = cc in let second : y.instance ≡ i.name = cc in λ j. first j ∷ second j ∷ []) }

  ready : (r : Snapshot) → Mem r s.snapshots → IsReady k (gone_along i r)
  ready r m = record { good = (good.0, good.1, (goods.snapshots.at r m).2); timely = moments.snapshots.at r m; free = unclaimed r }

  by : (x : Row) → (r : Snapshot) × (Mem r rs × (x ≡ gone_along i r)) → IsReady k x
  by x found = subst (IsReady k) (sym found.1.1) (ready found.0 (there.at found.0 found.1.0))

rename-ready : (s : State) (k : OperationTable Task) (task : Task) → AreNamed s → Each (λ o. IsPlaced s o.work) s.operations.live → IsEnding s k task → task.deed ≡ deed.Rename
    → Each (IsReady k) (rows_put (option_map_or (renames_instance s task) (claimed_instance task) []))
rename-ready s k task h placed e renames = at task.claim refl where
  removed : List Row
  removed = map row.Snapshot (snapshots_of s task.project task.target.name) ++ map row.Instance (option_to_list (instance_named s.instances task.project task.target.name))

  by : (i : Instance) → task.claim ≡ Some (row.Instance i) → Each (IsReady k) (rows_put (renames_instance s task i))
  by i is =
      let fresh = new-free s k task e (let keeps : keeps_name task.deed ≡ false = ap keeps_name renames in keeps) i is in
      removals-each removed _
      (puts-each (row.Instance i ∷ map (gone_along i) (snapshots_of s task.project task.target.name))
      (Each-cons (IsReady k) (record { good = e.good (row.Instance i) is; timely = e.timely (row.Instance i) is; free = Each-right s.instances fresh })
      (along-ready s k task i h placed e (e.good (row.Instance i) is) (Each-left (read_of new_instance k.live) fresh)
      (snapshots_of s task.project task.target.name)
      (record { at = λ r m. Mem-filter (λ (x : Snapshot). cond (bytes_eq x.project task.project) (bytes_eq x.instance task.target.name) false) r s.snapshots m }))))

  at : (claim : Option Row) → task.claim ≡ claim
      → Each (IsReady k) (rows_put (option_map_or (renames_instance s task) (claimed_instance (record task { claim = claim })) []))
  at None is = Each-none
  at (Some (row.Instance i)) is = by i is
  at (Some (row.Project r)) is = Each-none
  at (Some (row.Profile r)) is = Each-none
  at (Some (row.Network r)) is = Each-none
  at (Some (row.Pool r)) is = Each-none
  at (Some (row.Volume r)) is = Each-none
  at (Some (row.Snapshot r)) is = Each-none

removes-ready : (s : State) (k : OperationTable Task) (project name : List ℕ) → Each (IsReady k) (rows_put (removes_instance s project name))
removes-ready s k project name =
    removals-none (map row.Snapshot (snapshots_of s project name) ++ map row.Instance (option_to_list (instance_named s.instances project name)))

-- by deed: each row that a success puts may be put once the operation has ended
deed-ready : (s : State) (k : OperationTable Task) (task : Task) (d : Deed) → AreNamed s → Each (λ o. IsPlaced s o.work) s.operations.live
    → IsEnding s k (record task { deed = d }) → Each (IsReady k) (rows_put (success_changes s (record task { deed = d })))
deed-ready s k task deed.Create h placed e = claim-ready s k (record task { deed = deed.Create }) e
    (λ i is. Each-right s.instances (new-free s k (record task { deed = deed.Create }) e refl i is))
deed-ready s k task deed.Copy h placed e = claim-ready s k (record task { deed = deed.Copy }) e
    (λ i is. Each-right s.instances (new-free s k (record task { deed = deed.Copy }) e refl i is))
deed-ready s k task deed.Update h placed e = claim-ready s k (record task { deed = deed.Update }) e
    (same-free s k (record task { deed = deed.Update }) e (λ same. cc) e.by_deed.target (e.placed.target refl))
deed-ready s k task deed.Restore h placed e = claim-ready s k (record task { deed = deed.Restore }) e
    (same-free s k (record task { deed = deed.Restore }) e (λ same. cc) e.by_deed.target (e.placed.target refl))
deed-ready s k task deed.Rename h placed e = rename-ready s k (record task { deed = deed.Rename }) h placed e refl
deed-ready s k task deed.Delete h placed e = removes-ready s k task.project task.target.name
deed-ready s k task (deed.Act action.Start ephemeral) h placed e = Each-none
deed-ready s k task (deed.Act action.Stop true) h placed e = removes-ready s k task.project task.target.name
deed-ready s k task (deed.Act action.Stop false) h placed e = Each-none
deed-ready s k task (deed.Act action.Restart ephemeral) h placed e = Each-none
deed-ready s k task (deed.Act action.Freeze ephemeral) h placed e = Each-none
deed-ready s k task (deed.Act action.Unfreeze ephemeral) h placed e = Each-none
deed-ready s k task deed.Snap h placed e = claim-ready s k (record task { deed = deed.Snap }) e
    (λ i is. Each-right s.instances (new-free s k (record task { deed = deed.Snap }) e refl i is))
deed-ready s k task deed.Unsnap h placed e =
    removals-none (map row.Snapshot (option_to_list (snapshot_named s.snapshots task.project task.target.instance task.target.name)))
deed-ready s k task deed.CopyVolume h placed e = claim-ready s k (record task { deed = deed.CopyVolume }) e
    (λ i is. Each-right s.instances (new-free s k (record task { deed = deed.CopyVolume }) e refl i is))

-- ---- the whole success

-- the operations after one has succeeded
abbrev pub succeeding : ℕ → ℕ → OperationTable Task → OperationTable Task
succeeding number moment k = kept.ends number status.Success op_fault.None moment k

-- each row that a success puts may be put once its operation has ended
pub success-ready : (s : State) (o : Operation Task) (moment : ℕ) → IsWhole s → live_at s.operations o.number ≡ Some o
    → Each (IsReady (succeeding o.number moment s.operations)) (rows_put (success_changes s o.work))
success-ready s o moment h live =
    deed-ready s (succeeding o.number moment s.operations) o.work o.work.deed h.names h.references.operations
    (is-ending s (succeeding o.number moment s.operations) o h
    (dropped-Puts (has_number o.number) o s.operations.live live)
    (find-some (has_number o.number) s.operations.live o live).0
    (AreNamed-ended s o status.Success op_fault.None moment live h.names).new_instances)

-- names after changes of rows, and the end of the operation, from a state with the same operations
success-from : (s : State) (o : Operation Task) (moment : ℕ) (cs : List RowChange) → live_at s.operations o.number ≡ Some o
    → Each (IsReady (succeeding o.number moment s.operations)) (rows_put cs)
    → (t : State) → t.operations ≡ s.operations → AreNamed t
    → AreNamed (ended o.number status.Success op_fault.None moment (applied t cs))
success-from s o moment cs live ready t same h =
    subst AreNamed (sym (ap (λ k. record (applied t cs) { operations = succeeding o.number moment k }) (applied-operations cs t) ∙ sym (applied-aside cs t (succeeding o.number moment t.operations))))
    (AreNamed-applied (ended o.number status.Success op_fault.None moment t) cs
    (AreNamed-ended t o status.Success op_fault.None moment (ap (λ k. live_at k o.number) same ∙ live) h)
    (subst (λ k. Each (IsReady (succeeding o.number moment k)) (rows_put cs)) (sym same) ready))

pub power_after-operations : (task : Task) (power : Option Power) (s : State) → (with_power_after task power s).operations ≡ s.operations
power_after-operations task None s = refl
power_after-operations task (Some power) s = refl

pub AreNamed-succeeded : (s : State) (o : Operation Task) (moment : ℕ) → IsWhole s → live_at s.operations o.number ≡ Some o → AreNamed (succeeded s o moment)
unfolding succeeded
AreNamed-succeeded s o moment h live =
    AreNamed-converted o.number (ended o.number status.Success op_fault.None moment (applied acted (success_changes s o.work)))
    (success-from s o moment (success_changes s o.work) live (success-ready s o moment h live) acted
    (power_after-operations o.work (power_after s o.work) s)
    (AreNamed-power_after s o.work (power_after s o.work) h.names))
  where
    acted : State
    acted = with_power_after o.work (power_after s o.work) s
