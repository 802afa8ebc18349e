-- Where one operation succeeds, the others replace what they replaced, and hold the shares that they held.
use Rattle.std.proofs.Common.{◌≡◌, ◌≢◌, ℕ, cond, Option, Some, None, List, ◌⊎◌, sym, ◌∙◌, ap, subst, inl, inr}
use Rattle.std.specs.Prelude.{IfSome}
use Rattle.std.specs.Option.{option_and_then}
use Rattle.plain_lists.specs.Members.{Mem}
use Rattle.plain_lists.specs.Edits.{dropped}
use Rattle.plain_lists.proofs.EditLemmas.{find-replaced, Mem-dropped}
use Rattle.plain_lists.proofs.Searches.{find-some}
use Rattle.size_values.specs.declared.kinds.Deed.TheVariants as deed
use Rattle.size_values.specs.declared.kinds.ObjectKind.TheVariants as kind
use Rattle.operations.specs.declared.operation.Operation.{Operation}
use Rattle.operations.specs.OperationTable.{has_number, live_at}
use Rattle.records.specs.declared.commands.Target.{Target}
use Rattle.records.specs.declared.rows.Instance.{Instance}
use Rattle.records.specs.declared.rows.Row.TheVariants as row
use Rattle.row_codec.specs.Spelling.{two_names}
use Rattle.row_machine.specs.machine.Task.{Task}
use Rattle.row_machine.specs.machine.State.{State}
use Rattle.row_machine.specs.machine.Rows.{is_instance, instance_named, instance_names, with_instance, texts_before}
use Rattle.row_machine.specs.machine.Changes.{has_key}
use Rattle.row_machine.specs.machine.Claims.{claimed_instance, replaced_instance, amounts_of_instance, part_of_instance}
use Rattle.row_machine.specs.shown.Urls.{target_of}
use Rattle.row_machine.specs.facts.Whole.{IsWhole, IsByDeed, IsPlaced, new_instance}
use Rattle.row_machine.specs.machine.Deeds.{target_kind, keeps_name}
use Rattle.machine_laws.proofs.ExpansionsApart.{fails-by, find-dropped_each}
use Rattle.machine_laws.proofs.Found.{there-is, instance-found}
use Rattle.machine_laws.proofs.LimitsRows.{Tables, tables, IsDone, stays, puts_volume, puts_instance, drops_instance, renames_instance_to, renames_none}
use Rattle.machine_laws.proofs.Expansions.{CountsAlike}
use Rattle.machine_laws.proofs.SharesAlike.{HoldsAlike, share-alike}
use Rattle.machine_laws.proofs.SharesApart.{Replaces, replaces-or_not, not-target, new-no_row, instance-so, instance-key, instance-row}

-- an instance of other names that is put is not found
pub put-apart : (i : Instance) (rows : List Instance) (project name : List ℕ) → ((i.project ≡ project) × (i.name ≡ name) → ⊥)
    → instance_named (with_instance i rows) project name ≡ instance_named rows project name
put-apart i rows project name never =
    find-replaced (is_instance i.project i.name) (λ y. texts_before (instance_names i) (instance_names y)) (is_instance project name) i rows
    (fails-by (is_instance project name i) (λ is. never (instance-so project name i is)))
    (λ y hit. fails-by (is_instance project name y) (λ is.
    let at = instance-so i.project i.name y hit in
    let so = instance-so project name y is in
    never (sym at.0 ∙ so.0, sym at.1 ∙ so.1)))

module _ (s : State) (o x : Operation Task) (h : IsWhole s) (live : live_at s.operations o.number ≡ Some o)
    (other : Mem x (dropped (has_number o.number) s.operations.live)) (replaces : Replaces s x.work) where
  o_live : Mem o s.operations.live
  o_live = (find-some (has_number o.number) s.operations.live o live).0

  deeds : IsByDeed o.work
  deeds = h.operations.deeds.at o o_live

  placed : IsPlaced s o.work
  placed = h.references.operations.at o o_live

  -- what the claim of o is named by is busy with o
  not-claimed : (i : Instance) → o.work.claim ≡ Some (row.Instance i) → o.work.deed ≢ deed.Rename → (i.project ≡ x.work.project) × (i.name ≡ x.work.target.name) → ⊥
  not-claimed i claim renames names = not-target s o x h live other (sym (ap (λ (t : Target). t.kind) target)) replaces
      (sym names.0 ∙ placed.claim_project (row.Instance i) claim, sym names.1 ∙ ap (λ (t : Target). t.name) target) where
        target : target_of (row.Instance i) ≡ o.work.target
        target = subst (λ c. IfSome c (λ r. target_of r ≡ o.work.target)) claim (deeds.named renames)

  not-new : (i : Instance) → o.work.claim ≡ Some (row.Instance i) → o.work.deed ≡ deed.Rename → (i.project ≡ x.work.project) × (i.name ≡ x.work.target.name) → ⊥
  not-new i claim rename names =
      let j = there-is (instance_named s.instances x.work.project x.work.target.name) replaces.there in
      let found = instance-found s.instances x.work.project x.work.target.name j.0 j.1 in
      new-no_row s o i j.0 h o_live new (find-some (is_instance x.work.project x.work.target.name) s.instances j.0 j.1).0
      (names.0 ∙ sym found.0, names.1 ∙ sym found.1) where
        new : new_instance o.work ≡ Some i
        new = ap (λ d. cond (keeps_name d) None (claimed_instance o.work)) rename ∙ ap (λ c. claimed_instance (record o.work { claim = c })) claim

  -- the target of o is dropped
  drop-apart : (old : Instance) → instance_named s.instances o.work.project o.work.target.name ≡ Some old → o.work.target.kind ≡ kind.Instance
      → instance_named (dropped (λ r. has_key (two_names old.project old.name) (row.Instance r)) s.instances) x.work.project x.work.target.name
      ≡ instance_named s.instances x.work.project x.work.target.name
  drop-apart old found of = find-dropped_each (λ r. has_key (two_names old.project old.name) (row.Instance r)) (is_instance x.work.project x.work.target.name) s.instances
      (record {
        at = λ y m hit. fails-by (is_instance x.work.project x.work.target.name y) (λ is.
            let key = instance-key old y (h.names.good.at (row.Instance old) (instance-row s old (find-some (is_instance o.work.project o.work.target.name) s.instances old found).0))
            (h.names.good.at (row.Instance y) (instance-row s y m)) hit in
            let target = instance-found s.instances o.work.project o.work.target.name old found in
            let so = instance-so x.work.project x.work.target.name y is in
            not-target s o x h live other of replaces (sym so.0 ∙ key.0 ∙ target.0, sym so.1 ∙ key.1 ∙ target.1));
      })

  pub lookup-done : {later : Tables} → IsDone (tables s) o.work later
      → instance_named later.instances x.work.project x.work.target.name ≡ instance_named s.instances x.work.project x.work.target.name
  lookup-done (stays e) = ap look e where
    look : Tables → Option Instance
    look t = instance_named t.instances x.work.project x.work.target.name
  lookup-done (puts_volume v claim e) = ap look e where
    look : Tables → Option Instance
    look t = instance_named t.instances x.work.project x.work.target.name
  lookup-done (puts_instance i claim other_deed keeps e) = ap look e ∙ put-apart i s.instances x.work.project x.work.target.name (not-claimed i claim other_deed) where
    look : Tables → Option Instance
    look t = instance_named t.instances x.work.project x.work.target.name
  lookup-done (drops_instance old found nothing of e) = ap look e ∙ drop-apart old found (deeds.target ∙ of) where
    look : Tables → Option Instance
    look t = instance_named t.instances x.work.project x.work.target.name
  lookup-done (renames_instance_to old i claim rename found e) =
      ap look e ∙ put-apart i (dropped (λ r. has_key (two_names old.project old.name) (row.Instance r)) s.instances) x.work.project x.work.target.name (not-new i claim rename)
      ∙ drop-apart old found (deeds.target ∙ ap target_kind rename) where
        look : Tables → Option Instance
        look t = instance_named t.instances x.work.project x.work.target.name
  lookup-done (renames_none i claim rename found e) = ap look e ∙ put-apart i s.instances x.work.project x.work.target.name (not-new i claim rename) where
    look : Tables → Option Instance
    look t = instance_named t.instances x.work.project x.work.target.name

-- what an instance counts for is read off projects and profiles
pub amounts-tables : (s t : State) (i : Instance) → t.projects ≡ s.projects → t.profiles ≡ s.profiles → amounts_of_instance t i ≡ amounts_of_instance s i
unfolding amounts_of_instance
amounts-tables s t i projects profiles =
    ap (λ ps. amounts_of_instance (record s { projects = ps; profiles = t.profiles }) i) projects
    ∙ ap (λ rs. amounts_of_instance (record s { profiles = rs }) i) profiles

part-tables : (s t : State) (i : Instance) → t.projects ≡ s.projects → t.profiles ≡ s.profiles → part_of_instance t i ≡ part_of_instance s i
unfolding part_of_instance
part-tables s t i projects profiles =
    ap (λ ps. part_of_instance (record s { projects = ps; profiles = t.profiles }) i) projects
    ∙ ap (λ rs. part_of_instance (record s { profiles = rs }) i) profiles

pub counts-tables : (s t : State) (i : Instance) → t.projects ≡ s.projects → t.profiles ≡ s.profiles → CountsAlike s t i
counts-tables s t i projects profiles = record { amounts = amounts-tables s t i projects profiles; part = part-tables s t i projects profiles }

-- projects and profiles stay
pub done-projects : (s : State) {task : Task} {later : Tables} → IsDone (tables s) task later
    → (later.projects ≡ s.projects) × (later.profiles ≡ s.profiles) × (later.networks ≡ s.networks)
done-projects s (stays e) = (ap (λ (t : Tables). t.projects) e, ap (λ (t : Tables). t.profiles) e, ap (λ (t : Tables). t.networks) e)
done-projects s (puts_volume v claim e) = (ap (λ (t : Tables). t.projects) e, ap (λ (t : Tables). t.profiles) e, ap (λ (t : Tables). t.networks) e)
done-projects s (puts_instance i claim other keeps e) = (ap (λ (t : Tables). t.projects) e, ap (λ (t : Tables). t.profiles) e, ap (λ (t : Tables). t.networks) e)
done-projects s (drops_instance old found nothing of e) = (ap (λ (t : Tables). t.projects) e, ap (λ (t : Tables). t.profiles) e, ap (λ (t : Tables). t.networks) e)
done-projects s (renames_instance_to old i claim rename found e) = (ap (λ (t : Tables). t.projects) e, ap (λ (t : Tables). t.profiles) e, ap (λ (t : Tables). t.networks) e)
done-projects s (renames_none i claim rename found e) = (ap (λ (t : Tables). t.projects) e, ap (λ (t : Tables). t.profiles) e, ap (λ (t : Tables). t.networks) e)

-- the share of each other live operation
pub share-done : (s : State) (o x : Operation Task) (t : State) → IsWhole s → live_at s.operations o.number ≡ Some o
    → Mem x (dropped (has_number o.number) s.operations.live) → IsDone (tables s) o.work (tables t) → HoldsAlike s t x.work
share-done s o x t h live other done = share-alike x.work (record {
  claimed = λ i is. same i;
  replaced = at (replaces-or_not s x.work (h.operations.deeds.at x x_live) (h.references.operations.at x x_live));
  old = λ i is. same i;
}) where
  x_live : Mem x s.operations.live
  x_live = Mem-dropped x (has_number o.number) s.operations.live other

  same : (i : Instance) → CountsAlike s t i
  same i = let rows = done-projects s done in counts-tables s t i rows.0 rows.1

  by : State → Option (List ℕ × List ℕ) → Option Instance
  by u names = option_and_then (λ (n : List ℕ × List ℕ). instance_named u.instances n.0 n.1) names

  at : Replaces s x.work ⊎ (x.work.replaces ≡ None) → replaced_instance t x.work ≡ replaced_instance s x.work
  at (inl replaces) = ap (by t) replaces.names ∙ lookup-done s o x h live other replaces done ∙ sym (ap (by s) replaces.names)
  at (inr none) = ap (by t) none ∙ sym (ap (by s) none)
