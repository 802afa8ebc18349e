-- Sizes after a success, by its deed.
use Rattle.std.proofs.Common.{◌≡◌, ℕ, ◌+◌, ◌≤◌, Bool, true, false, cond, Option, Some, None, List, [], ◌∷◌, ◌++◌, map, refl, sym, subst, arith}
use Rattle.std.specs.Str.{bytes_eq}
use Rattle.std.specs.Option.{option_map, option_map_or, option_to_list}
use Rattle.plain_lists.specs.Members.{Mem, Each, Distinct}
use Rattle.plain_lists.specs.Puts.{Puts}
use Rattle.plain_lists.proofs.Elements.{Mem-from_map, Each-none, Each-cons}
use Rattle.size_values.specs.declared.kinds.Action.TheVariants as action
use Rattle.size_values.specs.declared.kinds.Deed.{Deed}
use Rattle.size_values.specs.declared.kinds.Deed.TheVariants as deed
use Rattle.size_values.specs.declared.kinds.ObjectKind.{ObjectKind}
use Rattle.size_values.specs.declared.kinds.ObjectKind.TheVariants as kind
use Rattle.operations.specs.declared.operation.Operation.{Operation}
use Rattle.operations.specs.OperationTable.{OperationTable}
use Rattle.records.specs.declared.rows.Instance.{Instance}
use Rattle.records.specs.declared.rows.Snapshot.{Snapshot}
use Rattle.records.specs.declared.rows.Row.{Row}
use Rattle.records.specs.declared.rows.Row.TheVariants as row
use Rattle.row_codec.specs.Spelling.{key_of}
use Rattle.row_machine.specs.declared.changes.RowChange.TheVariants as change
use Rattle.row_machine.specs.machine.Task.{Task}
use Rattle.row_machine.specs.machine.State.{State, InstancePower}
use Rattle.row_machine.specs.machine.Rows.{instance_named, snapshot_named}
use Rattle.row_machine.specs.machine.Asked.{snapshots_of}
use Rattle.row_machine.specs.machine.Changes.{applied, rows_put, removal}
use Rattle.row_machine.specs.machine.Claims.{claimed_instance}
use Rattle.row_machine.specs.shown.Urls.{target_of}
use Rattle.row_machine.specs.machine.TableRules.{count_of}
use Rattle.row_machine.specs.machine.Operations.{success_changes, removes_instance, renames_instance}
use Rattle.row_machine.specs.machine.Deeds.{claim_kind}
use Rattle.machine_laws.proofs.NamesRows.{EachRow}
use Rattle.machine_laws.proofs.NamesApplied.{puts-each, removals-each, removals-none}
use Rattle.machine_laws.proofs.NamesSuccess.{Mem-filter, option-each}
use Rattle.machine_laws.proofs.NamesDeeds.{gone_along}
use Rattle.machine_laws.proofs.NamesKeys.{Distinct-filter}
use Rattle.machine_laws.proofs.SizesTables.{HasNoMore, IsSmall, IsClaimed, fewer-no-more, claim-no-more, reads-one}
use Rattle.machine_laws.proofs.SizesSuccess.{removals-no-more, rename-no-more}

-- what sizes need to know of an operation that ends: its claim is small, and of the kind of its deed
pub record IsSized (s : State) (task : Task) : Type 0 where
  pub small : (r : Row) → task.claim ≡ Some r → IsSmall r
  pub kind : option_map (λ r. (target_of r).kind) task.claim ≡ claim_kind task.deed
  pub rows : EachRow IsSmall s
  pub keys : Distinct (λ r. key_of (row.Snapshot r)) s.snapshots

-- ---- each row that is put is small

claim-small : (s : State) (task : Task) → IsSized s task → Each IsSmall (rows_put (map change.Put (option_to_list task.claim)))
claim-small s task e = puts-each (option_to_list task.claim) (option-each IsSmall task.claim e.small)

-- a snapshot under another name has the body that it had
along-small : (s : State) (project name : List ℕ) (i : Instance) → EachRow IsSmall s → Each IsSmall (map (gone_along i) (snapshots_of s project name))
along-small s project name i rows = record { at = λ x m. by x (Mem-from_map (gone_along i) x (snapshots_of s project name) m) } where
  by : (x : Row) → (r : Snapshot) × (Mem r (snapshots_of s project name) × (x ≡ gone_along i r)) → IsSmall x
  by x found =
      let there = Mem-filter (λ (y : Snapshot). cond (bytes_eq y.project project) (bytes_eq y.instance name) false) found.0 s.snapshots found.1.0 in
      let small : IsSmall (gone_along i found.0) = rows.snapshots.at found.0 there in
      subst IsSmall (sym found.1.1) small

rename-small : (s : State) (task : Task) → IsSized s task → Each IsSmall (rows_put (option_map_or (renames_instance s task) (claimed_instance task) []))
rename-small s task e = at task.claim refl where
  by : (i : Instance) → task.claim ≡ Some (row.Instance i) → Each IsSmall (rows_put (renames_instance s task i))
  by i is =
      removals-each (map row.Snapshot (snapshots_of s task.project task.target.name) ++ map row.Instance (option_to_list (instance_named s.instances task.project task.target.name))) _
      (puts-each (row.Instance i ∷ map (gone_along i) (snapshots_of s task.project task.target.name))
      (Each-cons IsSmall (e.small (row.Instance i) is) (along-small s task.project task.target.name i e.rows)))

  at : (claim : Option Row) → task.claim ≡ claim → Each IsSmall (rows_put (option_map_or (renames_instance s task) (claimed_instance (record task { claim = claim })) []))
  at None is = Each-none
  at (Some (row.Instance i)) is = by i is
  at (Some (row.Project r)) is = Each-none
  at (Some (row.Profile r)) is = Each-none
  at (Some (row.Network r)) is = Each-none
  at (Some (row.Pool r)) is = Each-none
  at (Some (row.Volume r)) is = Each-none
  at (Some (row.Snapshot r)) is = Each-none

removes-small : (s : State) (project name : List ℕ) → Each IsSmall (rows_put (removes_instance s project name))
removes-small s project name = removals-none (map row.Snapshot (snapshots_of s project name) ++ map row.Instance (option_to_list (instance_named s.instances project name)))

pub deed-small : (s : State) (task : Task) (d : Deed) → IsSized s (record task { deed = d }) → Each IsSmall (rows_put (success_changes s (record task { deed = d })))
deed-small s task deed.Create e = claim-small s (record task { deed = deed.Create }) e
deed-small s task deed.Copy e = claim-small s (record task { deed = deed.Copy }) e
deed-small s task deed.Update e = claim-small s (record task { deed = deed.Update }) e
deed-small s task deed.Restore e = claim-small s (record task { deed = deed.Restore }) e
deed-small s task deed.Rename e = rename-small s (record task { deed = deed.Rename }) e
deed-small s task deed.Delete e = removes-small s task.project task.target.name
deed-small s task (deed.Act action.Start ephemeral) e = Each-none
deed-small s task (deed.Act action.Stop true) e = removes-small s task.project task.target.name
deed-small s task (deed.Act action.Stop false) e = Each-none
deed-small s task (deed.Act action.Restart ephemeral) e = Each-none
deed-small s task (deed.Act action.Freeze ephemeral) e = Each-none
deed-small s task (deed.Act action.Unfreeze ephemeral) e = Each-none
deed-small s task deed.Snap e = claim-small s (record task { deed = deed.Snap }) e
deed-small s task deed.Unsnap e = removals-none (map row.Snapshot (option_to_list (snapshot_named s.snapshots task.project task.target.instance task.target.name)))
deed-small s task deed.CopyVolume e = claim-small s (record task { deed = deed.CopyVolume }) e

-- ---- no table has more

-- the kinds of claimed rows
abbrev can_claim : ObjectKind → Type 0
can_claim kind.Volume = Unit {0}
can_claim kind.Instance = Unit {0}
can_claim kind.Snapshot = Unit {0}
can_claim other = ⊥

claimed : (r : Row) → can_claim (target_of r).kind → IsClaimed r
claimed (row.Project r) h = h
claimed (row.Profile r) h = h
claimed (row.Network r) h = h
claimed (row.Pool r) h = h
claimed (row.Volume r) h = h
claimed (row.Instance r) h = h
claimed (row.Snapshot r) h = h

-- the state once an operation has ended, with these statuses
abbrev pub with_operations : State → OperationTable Task → List InstancePower → State
with_operations s k powers = record s { powers = powers; operations = k }

claim-counts : (s : State) (k : OperationTable Task) (powers : List InstancePower) (o : Operation Task) → Puts o k.live s.operations.live → (of : ObjectKind) → can_claim of
    → option_map (λ r. (target_of r).kind) o.work.claim ≡ Some of
    → HasNoMore (applied (with_operations s k powers) (map change.Put (option_to_list o.work.claim))) s
claim-counts s k powers o put of can is = at o.work.claim refl is where
  at : (claim : Option Row) → o.work.claim ≡ claim → option_map (λ r. (target_of r).kind) claim ≡ Some of
      → HasNoMore (applied (with_operations s k powers) (map change.Put (option_to_list claim))) s
  at None none is = fewer-no-more (record s { powers = powers }) k o put
  at (Some r) some is =
      let same : of ≡ (target_of r).kind = cc in
      claim-no-more (record s { powers = powers }) k o r put some (claimed r (subst can_claim same can))

removal-counts : (s : State) (k : OperationTable Task) (powers : List InstancePower) (o : Operation Task) → Puts o k.live s.operations.live → (rows : List Row)
    → HasNoMore (applied (with_operations s k powers) (map removal rows)) s
removal-counts s k powers o put rows of =
    omega (arith, removals-no-more rows (with_operations s k powers) of, fewer-no-more (record s { powers = powers }) k o put of)

nothing-counts : (s : State) (k : OperationTable Task) (powers : List InstancePower) (o : Operation Task) → Puts o k.live s.operations.live → HasNoMore (with_operations s k powers) s
nothing-counts s k powers o put = fewer-no-more (record s { powers = powers }) k o put

rename-counts : (s : State) (k : OperationTable Task) (powers : List InstancePower) (o : Operation Task) → Puts o k.live s.operations.live → IsSized s o.work
    → HasNoMore (applied (with_operations s k powers) (option_map_or (renames_instance s o.work) (claimed_instance o.work) [])) s
rename-counts s k powers o put e = at (claimed_instance o.work) refl where
  snapshots : List Snapshot
  snapshots = snapshots_of s o.work.project o.work.target.name

  picks : Snapshot → Bool
  picks y = cond (bytes_eq y.project o.work.project) (bytes_eq y.instance o.work.target.name) false

  at : (claim : Option Instance) → claimed_instance o.work ≡ claim → HasNoMore (applied (with_operations s k powers) (option_map_or (renames_instance s o.work) claim [])) s
  at None is = nothing-counts s k powers o put
  at (Some i) is =
      let one : count_of (with_operations s k powers) kind.Instance + 1 ≤ count_of s kind.Instance = omega (arith, reads-one claimed_instance o i put is) in
      rename-no-more (with_operations s k powers) s snapshots (option_to_list (instance_named s.instances o.work.project o.work.target.name)) i
      (nothing-counts s k powers o put) one
      (Distinct-filter (λ r. key_of (row.Snapshot r)) picks s.snapshots e.keys)
      (record { at = λ r m. Mem-filter picks r s.snapshots m })

-- the operation with another deed
abbrev pub with_deed : Deed → Operation Task → Operation Task
with_deed d o = record o { work = record o.work { deed = d } }

pub deed-counts : (s : State) (k : OperationTable Task) (powers : List InstancePower) (o : Operation Task) (d : Deed) → Puts (with_deed d o) k.live s.operations.live
    → IsSized s (with_deed d o).work → HasNoMore (applied (with_operations s k powers) (success_changes s (with_deed d o).work)) s
deed-counts s k powers o deed.Create put e = claim-counts s k powers (with_deed deed.Create o) put kind.Instance tt e.kind
deed-counts s k powers o deed.Copy put e = claim-counts s k powers (with_deed deed.Copy o) put kind.Instance tt e.kind
deed-counts s k powers o deed.Update put e = claim-counts s k powers (with_deed deed.Update o) put kind.Instance tt e.kind
deed-counts s k powers o deed.Restore put e = claim-counts s k powers (with_deed deed.Restore o) put kind.Instance tt e.kind
deed-counts s k powers o deed.Rename put e = rename-counts s k powers (with_deed deed.Rename o) put e
deed-counts s k powers o deed.Delete put e = removal-counts s k powers (with_deed deed.Delete o) put
    (map row.Snapshot (snapshots_of s o.work.project o.work.target.name) ++ map row.Instance (option_to_list (instance_named s.instances o.work.project o.work.target.name)))
deed-counts s k powers o (deed.Act action.Start ephemeral) put e = nothing-counts s k powers (with_deed (deed.Act action.Start ephemeral) o) put
deed-counts s k powers o (deed.Act action.Stop true) put e = removal-counts s k powers (with_deed (deed.Act action.Stop true) o) put
    (map row.Snapshot (snapshots_of s o.work.project o.work.target.name) ++ map row.Instance (option_to_list (instance_named s.instances o.work.project o.work.target.name)))
deed-counts s k powers o (deed.Act action.Stop false) put e = nothing-counts s k powers (with_deed (deed.Act action.Stop false) o) put
deed-counts s k powers o (deed.Act action.Restart ephemeral) put e = nothing-counts s k powers (with_deed (deed.Act action.Restart ephemeral) o) put
deed-counts s k powers o (deed.Act action.Freeze ephemeral) put e = nothing-counts s k powers (with_deed (deed.Act action.Freeze ephemeral) o) put
deed-counts s k powers o (deed.Act action.Unfreeze ephemeral) put e = nothing-counts s k powers (with_deed (deed.Act action.Unfreeze ephemeral) o) put
deed-counts s k powers o deed.Snap put e = claim-counts s k powers (with_deed deed.Snap o) put kind.Snapshot tt e.kind
deed-counts s k powers o deed.Unsnap put e = removal-counts s k powers (with_deed deed.Unsnap o) put
    (map row.Snapshot (option_to_list (snapshot_named s.snapshots o.work.project o.work.target.instance o.work.target.name)))
deed-counts s k powers o deed.CopyVolume put e = claim-counts s k powers (with_deed deed.CopyVolume o) put kind.Volume tt e.kind
