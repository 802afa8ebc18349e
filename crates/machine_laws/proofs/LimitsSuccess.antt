-- The rows after the success of an operation that is by its deed.
use Rattle.std.proofs.Common.{◌≡◌, Bool, true, false, Option, Some, None, List, ◌∷◌, ◌++◌, refl, sym, ◌∙◌, ap, subst}
use Rattle.std.specs.Prelude.{map}
use Rattle.std.specs.Option.{option_map, option_to_list}
use Rattle.size_values.specs.declared.kinds.Action.{Action}
use Rattle.size_values.specs.declared.kinds.Action.TheVariants as action
use Rattle.size_values.specs.declared.kinds.Deed.{Deed}
use Rattle.size_values.specs.declared.kinds.Deed.TheVariants as deed
use Rattle.size_values.specs.declared.kinds.ObjectKind.TheVariants as kind
use Rattle.size_values.specs.declared.kinds.Power.{Power}
use Rattle.records.specs.declared.rows.Instance.{Instance}
use Rattle.records.specs.declared.rows.Snapshot.{Snapshot}
use Rattle.records.specs.declared.rows.Row.{Row}
use Rattle.records.specs.declared.rows.Row.TheVariants as row
use Rattle.row_machine.specs.declared.changes.RowChange.TheVariants as change
use Rattle.row_machine.specs.machine.Task.{Task}
use Rattle.row_machine.specs.machine.State.{State}
use Rattle.row_machine.specs.machine.Rows.{snapshot_named}
use Rattle.row_machine.specs.machine.Asked.{snapshots_of}
use Rattle.row_machine.specs.machine.Changes.{applied}
use Rattle.row_machine.specs.machine.Claims.{claimed_instance}
use Rattle.row_machine.specs.shown.Urls.{target_of}
use Rattle.row_machine.specs.machine.Operations.{success_changes, with_power_after, removes_instance}
use Rattle.row_machine.specs.facts.Whole.{IsByDeed}
use Rattle.row_machine.specs.machine.Deeds.{claim_kind}
use Rattle.machine_laws.proofs.SharesCores.{map-map}
use Rattle.machine_laws.proofs.LimitsRows.{tables, IsDone, stays, puts, drops, renames, unsnapped}

-- a status leaves the rows
pub power-tables : (task : Task) (power : Option Power) (s : State) → tables (with_power_after task power s) ≡ tables s
power-tables task None s = refl
power-tables task (Some power) s = refl

-- what is claimed where the deed claims an instance
pub data ClaimsInstance (task : Task) : Type 0 where
  none : task.claim ≡ None → ClaimsInstance task
  some : (i : Instance) → task.claim ≡ Some (row.Instance i) → claimed_instance task ≡ Some i → ClaimsInstance task

pub claims-instance : (task : Task) → option_map (λ r. (target_of r).kind) task.claim ≡ Some kind.Instance → ClaimsInstance task
claims-instance task h = at task.claim refl h where
  at : (claim : Option Row) → task.claim ≡ claim → option_map (λ r. (target_of r).kind) claim ≡ Some kind.Instance → ClaimsInstance task
  at None is k = none is
  at (Some (row.Instance i)) is k = some i is (ap (λ claim. claimed_instance (record task { claim = claim })) is)
  at (Some (row.Project r)) is k = absurd (cc)
  at (Some (row.Profile r)) is k = absurd (cc)
  at (Some (row.Network r)) is k = absurd (cc)
  at (Some (row.Pool r)) is k = absurd (cc)
  at (Some (row.Volume r)) is k = absurd (cc)
  at (Some (row.Snapshot r)) is k = absurd (cc)

module _ (s start : State) (same : tables start ≡ tables s) where
  -- by the deed of a task
  abbrev Goal : Task → Deed → Type 0
  Goal task d = option_map (λ r. (target_of r).kind) task.claim ≡ claim_kind d
      → IsDone (tables s) (record task { deed = d }) (tables (applied start (success_changes s (record task { deed = d }))))

  stops : (task : Task) (a : Action) (ephemeral : Bool) → Goal task (deed.Act a ephemeral)
  stops task action.Stop true k = drops s start same (record task { deed = deed.Act action.Stop true }) refl refl (snapshots_of s task.project task.target.name)
  stops task action.Stop false k = stays same
  stops task action.Start ephemeral k = stays same
  stops task action.Restart ephemeral k = stays same
  stops task action.Freeze ephemeral k = stays same
  stops task action.Unfreeze ephemeral k = stays same

  renamed : (task : Task) → Goal task deed.Rename
  renamed task k = at (claims-instance task k) where
    at : ClaimsInstance task → IsDone (tables s) (record task { deed = deed.Rename }) (tables (applied start (success_changes s (record task { deed = deed.Rename }))))
    at (none is) = subst
        (λ claim. IsDone (tables s) (record task { deed = deed.Rename; claim = claim }) (tables (applied start (success_changes s (record task { deed = deed.Rename; claim = claim })))))
        (sym is) (stays same)
    at (some i is found) = subst
        (λ claim. IsDone (tables s) (record task { deed = deed.Rename; claim = claim }) (tables (applied start (success_changes s (record task { deed = deed.Rename; claim = claim })))))
        (sym is)
        (subst (λ news. IsDone (tables s) target (tables (applied start (removes_instance s task.project task.target.name ++ map change.Put (row.Instance i ∷ news)))))
        (sym (map-map (λ (r : Snapshot). record r { instance = i.name; project = i.project }) row.Snapshot snaps))
        (renames s start same target i refl refl snaps (map (λ (r : Snapshot). record r { instance = i.name; project = i.project }) snaps))) where
          target : Task
          target = record task { deed = deed.Rename; claim = Some (row.Instance i) }

          snaps : List Snapshot
          snaps = snapshots_of s task.project task.target.name

  by-deed : (task : Task) (d : Deed) → Goal task d
  by-deed task deed.Create k = puts s start same (record task { deed = deed.Create }) kind.Instance k (λ e. cc) (λ e. cc) (λ e. cc) (λ e. cc) (λ e. cc) refl
  by-deed task deed.Copy k = puts s start same (record task { deed = deed.Copy }) kind.Instance k (λ e. cc) (λ e. cc) (λ e. cc) (λ e. cc) (λ e. cc) refl
  by-deed task deed.Update k = puts s start same (record task { deed = deed.Update }) kind.Instance k (λ e. cc) (λ e. cc) (λ e. cc) (λ e. cc) (λ e. cc) refl
  by-deed task deed.Restore k = puts s start same (record task { deed = deed.Restore }) kind.Instance k (λ e. cc) (λ e. cc) (λ e. cc) (λ e. cc) (λ e. cc) refl
  by-deed task deed.Rename k = renamed task k
  by-deed task deed.Delete k = drops s start same (record task { deed = deed.Delete }) refl refl (snapshots_of s task.project task.target.name)
  by-deed task (deed.Act a ephemeral) k = stops task a ephemeral k
  by-deed task deed.Snap k = puts s start same (record task { deed = deed.Snap }) kind.Snapshot k (λ e. cc) (λ e. cc) (λ e. cc) (λ e. cc) (λ e. cc) refl
  by-deed task deed.Unsnap k = stays (unsnapped (option_to_list (snapshot_named s.snapshots task.project task.target.instance task.target.name)) start ∙ same)
  by-deed task deed.CopyVolume k = puts s start same (record task { deed = deed.CopyVolume }) kind.Volume k (λ e. cc) (λ e. cc) (λ e. cc) (λ e. cc) (λ e. cc) refl

-- the rows after the success of an operation
pub success-rows : (s : State) (task : Task) (power : Option Power) → IsByDeed task
    → IsDone (tables s) task (tables (applied (with_power_after task power s) (success_changes s task)))
success-rows s task power deeds = by-deed s (with_power_after task power s) (power-tables task power s) task task.deed deeds.kind
