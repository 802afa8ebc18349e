-- Good names are short, so what an operation that begins is about has short texts; and these never change.
use Rattle.std.proofs.Common.{◌≡◌, ℕ, ◌≤◌, Bool, true, false, cond, ◌&&◌, nat_le, nat_lt, Option, Some, None, List, length, refl, sym, subst, arith}
use Rattle.std.proofs.lemmas.Bool.{leb-true}
use Rattle.std.specs.Option.{option_map_or}
use Rattle.plain_lists.specs.Members.{Each}
use Rattle.plain_lists.specs.Rings.{ring_push}
use Rattle.plain_lists.proofs.Elements.{Each-push}
use Rattle.plain_lists.proofs.EditLemmas.{Each-changed, Each-dropped}
use Rattle.plain_lists.proofs.RingLemmas.{Each-ring}
use Rattle.plain_lists.proofs.Searches.{find-some}
use Rattle.size_values.specs.declared.kinds.ObjectKind.{ObjectKind}
use Rattle.size_values.specs.declared.kinds.ObjectKind.TheVariants as kind
use Rattle.size_values.specs.declared.kinds.Power.{Power}
use Rattle.size_values.specs.declared.kinds.Power.TheVariants.{Error}
use Rattle.estate_rules.specs.Names.{is_instance_name, is_object_name, is_project_name}
use Rattle.operations.specs.declared.operation.OpFault.{OpFault}
use Rattle.operations.specs.declared.operation.OpFault.TheVariants as op_fault
use Rattle.operations.specs.declared.operation.Operation.{Operation}
use Rattle.operations.specs.declared.status.Status.{Status}
use Rattle.operations.specs.declared.status.Status.TheVariants as status
use Rattle.operations.specs.declared.status.Status.TheVariants.{Running, Cancelling}
use Rattle.operations.specs.Statuses.{is_pending}
use Rattle.operations.specs.OperationTable.{OperationTable, has_number, live_at}
use Rattle.operations.specs.Limits.{most_ended}
use Rattle.operations.specs.OperationTable as kept
use Rattle.records.specs.declared.commands.Target.{Target}
use Rattle.records.specs.declared.notices.Untold.{Untold}
use Rattle.records.specs.declared.rows.Instance.{Instance}
use Rattle.row_codec.specs.Rows.{IsGood}
use Rattle.row_machine.specs.machine.Changes.{applied}
use Rattle.row_machine.specs.machine.Deeds.{breaks_instance}
use Rattle.row_machine.specs.machine.Plans.{instance_target}
use Rattle.row_machine.specs.machine.Rows.{is_snapshot}
use Rattle.row_machine.specs.machine.State.{State}
use Rattle.row_machine.specs.machine.Task.{Task}
use Rattle.row_machine.specs.machine.Operations.{after_failure, cancelled, entered, failed, handing_out, moved, one_more_done, power_after, succeeded, success_changes, undone, with_power, with_power_after, with_task}
use Rattle.row_machine.specs.facts.Whole.{IsWhole, AreNamed}
use Rattle.row_machine.specs.shown.Notices.{telling}
use Rattle.machine_laws.proofs.BeginsCases.{begins}
use Rattle.machine_laws.proofs.BooksSteps.{telling-keeps}
use Rattle.machine_laws.proofs.Cases.{Begins, IsIdle}
use Rattle.machine_laws.proofs.Cases.Begins.{creates, copies_instance, copies_snapshot, copies_volume, updates, restores, renames, deletes, acts, snaps, unsnaps}
use Rattle.machine_laws.proofs.NamesApplied.{applied-operations}
use Rattle.machine_laws.proofs.NamesBegin.{good_rows, good-project, good-pool, idle-there}
use Rattle.machine_laws.proofs.Steps.{Alters, step-alters}
use Rattle.machine_laws.proofs.Steps.AltersBy.{stays, closes, rows, enters, hands_out, goes_on, takes_back, turns, cancels, fails, succeeds}
use Rattle.event_hub.specs.Short.{most_bytes}
use Rattle.core_turns.specs.ShortTasks.{IsShortTask, AreShort, StayShort}

-- ---- good names

both : (a b : Bool) → (a && b) ≡ true → (a ≡ true) × (b ≡ true)
both true b e = (refl, e)
both false b e = cc

-- a test that a name is long and short enough comes first
word-short : (least most : ℕ) (n : ℕ) (rest more : Bool) → most ≤ most_bytes → ((nat_le least n && nat_le n most && rest) && more) ≡ true → n ≤ most_bytes
word-short least most n rest more few e =
    let word = both (nat_le least n && nat_le n most && rest) more e in
    let sizes = both (nat_le least n && nat_le n most) rest word.0 in
    let at_most = leb-true n most (both (nat_le least n) (nat_le n most) sizes.0).1 in
    omega arith

pub good-short : (k : ObjectKind) (name : List ℕ) → IsGood k name → length name ≤ most_bytes
unfolding is_instance_name is_project_name is_object_name
good-short kind.Project name e = word-short 1 63 (length name) _ _ (omega arith) e
good-short kind.Profile name e = word-short 1 63 (length name) _ _ (omega arith) e
good-short kind.Network name e = word-short 2 15 (length name) _ _ (omega arith) e
good-short kind.Pool name e = word-short 1 63 (length name) _ _ (omega arith) e
good-short kind.Volume name e = word-short 1 63 (length name) _ _ (omega arith) e
good-short kind.Instance name e = word-short 1 63 (length name) _ _ (omega arith) (both _ _ e).0
good-short kind.Snapshot name e = word-short 1 63 (length name) _ _ (omega arith) e
good-short kind.Operation name e = cc

-- ---- an operation that begins

-- of an instance that is there
of-instance : {task : Task} (s : State) (i : Instance) → AreNamed s → IsIdle s i → task.project ≡ i.project → task.target ≡ instance_target i.name → IsShortTask task
of-instance {task} s i h idle project target =
    let row = (good_rows s h).instances.at i (idle-there s i idle) in
    record {
      project = subst (λ p. length p ≤ most_bytes) (sym project) (good-short kind.Project i.project row.0);
      pool = subst (λ (t : Target). length t.pool ≤ most_bytes) (sym target) (omega arith);
      instance = subst (λ (t : Target). length t.instance ≤ most_bytes) (sym target) (omega arith);
      name = subst (λ (t : Target). length t.name ≤ most_bytes) (sym target) (good-short kind.Instance i.name row.1);
    }

begins-short : (s : State) (task : Task) → AreNamed s → Begins s task → IsShortTask task
begins-short s task h (creates project name body moment there new profiles early) = record {
  project = good-short kind.Project project (good-project s project h there);
  pool = omega arith;
  instance = omega arith;
  name = good-short kind.Instance name new.good;
}
begins-short s task h (copies_instance name body moment i idle new profiles early) = record {
  project = good-short kind.Project i.project (good-project s i.project h idle.project);
  pool = omega arith;
  instance = omega arith;
  name = good-short kind.Instance name new.good;
}
begins-short s task h (copies_snapshot name body moment i r idle found new profiles early) = record {
  project = good-short kind.Project i.project (good-project s i.project h idle.project);
  pool = omega arith;
  instance = omega arith;
  name = good-short kind.Instance name new.good;
}
begins-short s task h (copies_volume pool name body moment v home found there to new early) = record {
  project = good-short kind.Project v.project (good-project s v.project h home.there);
  pool = good-short kind.Pool pool (good-pool s pool h to);
  instance = omega arith;
  name = good-short kind.Volume name new.good;
}
begins-short s task h (updates old i idle same) = of-instance s old h idle refl refl
begins-short s task h (restores i r idle allowed found) = of-instance s i h idle refl refl
begins-short s task h (renames i to idle allowed new) = of-instance s i h idle refl refl
begins-short s task h (deletes i idle allowed) = of-instance s i h idle refl refl
begins-short s task h (acts action i idle allowed) = of-instance s i h idle refl refl
begins-short s task h (snaps name moment i idle allowed new early) =
    let row = (good_rows s h).instances.at i (idle-there s i idle) in
    record {
      project = good-short kind.Project i.project row.0;
      pool = omega arith;
      instance = good-short kind.Instance i.name row.1;
      name = good-short kind.Snapshot name new.good;
    }
begins-short s task h (unsnaps i r idle found) =
    let row = (good_rows s h).instances.at i (idle-there s i idle) in
    let snapshot = (good_rows s h).snapshots.at r (find-some (is_snapshot i.project i.name r.name) s.snapshots r found).0 in
    record {
      project = good-short kind.Project i.project row.0;
      pool = omega arith;
      instance = good-short kind.Instance i.name row.1;
      name = good-short kind.Snapshot r.name snapshot.2;
    }

-- ---- operations that are kept

record AreShortIn (k : OperationTable Task) : Type 0 where
  live : Each (λ o. IsShortTask o.work) k.live
  ended : Each (λ o. IsShortTask o.work) k.ended

in-kept : (s : State) → AreShort s → AreShortIn s.operations
in-kept s h = record { live = h.live; ended = h.ended }

pub of-kept : {s t : State} → t.operations ≡ s.operations → AreShort s → AreShort t
of-kept {s} {t} same h = record {
  live = subst (λ (k : OperationTable Task). Each (λ o. IsShortTask o.work) k.live) (sym same) h.live;
  ended = subst (λ (k : OperationTable Task). Each (λ o. IsShortTask o.work) k.ended) (sym same) h.ended;
}

told-short : (ns : List Untold) (s : State) → AreShort s → AreShort (telling ns s)
told-short ns s h = telling-keeps AreShort (λ t some next e. record { live = e.live; ended = e.ended }) ns s h

-- another work with the same project and object
same-work : (s : State) (o : Operation Task) (task : Task) → IsShortTask task → AreShort s → AreShort (with_task o.number task s)
same-work s o task short h = record {
  live = Each-changed (λ (x : Operation Task). IsShortTask x.work) (has_number o.number) (λ (x : Operation Task). record x { work = task }) s.operations.live (λ x is e. short) h.live;
  ended = h.ended;
}

moved-short : (s : State) (number : ℕ) (now : Status) (moment : ℕ) → AreShort s → AreShort (moved number now moment s)
moved-short s number now moment h = record {
  live = Each-changed (λ (x : Operation Task). IsShortTask x.work) (has_number number) (λ (x : Operation Task). record x { status = now; updated = moment }) s.operations.live (λ x is e. e) h.live;
  ended = h.ended;
}

its-own : (s : State) (o : Operation Task) → live_at s.operations o.number ≡ Some o → AreShort s → IsShortTask o.work
its-own s o live h = h.live.at o (find-some (has_number o.number) s.operations.live o live).0

-- an end
ended-short : (k : OperationTable Task) (number : ℕ) (now : Status) (why : OpFault) (moment : ℕ) → AreShortIn k → AreShortIn (kept.ends number now why moment k)
ended-short k number now why moment h = record {
  live = Each-dropped (has_number number) h.live;
  ended = by (live_at k number) refl;
} where
  by : (found : Option (Operation Task)) → live_at k number ≡ found
      → Each (λ o. IsShortTask o.work) (option_map_or (λ o. ring_push most_ended (record o { status = now; fault = why; updated = moment }) k.ended) found k.ended)
  by None is = h.ended
  by (Some o) is = Each-ring (λ (x : Operation Task). IsShortTask x.work) most_ended h.ended (h.live.at o (find-some (has_number number) k.live o is).0)

entered-short : (s : State) (task : Task) (moment : ℕ) → IsShortTask task → AreShort s → AreShort (entered s task moment)
unfolding entered
entered-short s task moment short h = record { live = Each-push (λ (x : Operation Task). IsShortTask x.work) h.live short; ended = h.ended }

cancelled-short : (s : State) (number moment : ℕ) → AreShort s → AreShort (cancelled s number moment)
unfolding cancelled
cancelled-short s number moment h =
    let over = ended-short s.operations number status.Cancelled op_fault.None moment (in-kept s h) in
    record { live = over.live; ended = over.ended }

failed-short : (s : State) (o : Operation Task) (why : OpFault) (count moment : ℕ) → AreShort s → AreShort (failed s o why count moment)
unfolding failed
failed-short s o why count moment h =
    let over = ended-short (after_failure o.work count s).operations o.number status.Failure why moment
    (in-kept (after_failure o.work count s) (of-kept (by (nat_lt 0 count && breaks_instance o.work.deed)) h)) in
    record { live = over.live; ended = over.ended } where
      by : (b : Bool) → (cond b (with_power s o.work.project o.work.target.name Error) s).operations ≡ s.operations
      by true = refl
      by false = refl

succeeded-short : (s : State) (o : Operation Task) (moment : ℕ) → AreShort s → AreShort (succeeded s o moment)
unfolding succeeded
succeeded-short s o moment h =
    let power = power_after s o.work in
    let acted = with_power_after o.work power s in
    let changed = applied acted (success_changes s o.work) in
    let over = ended-short changed.operations o.number status.Success op_fault.None moment
    (in-kept changed (of-kept {s = acted} {t = changed} (applied-operations (success_changes s o.work) acted) (of-kept {s = s} {t = acted} (by power) h))) in
    record { live = over.live; ended = over.ended } where
      by : (p : Option Power) → (with_power_after o.work p s).operations ≡ s.operations
      by None = refl
      by (Some p) = refl

-- ---- a step

alters-short : {s t : State} → IsWhole s → AreShort s → Alters s t → AreShort t
alters-short w h stays = h
alters-short w h closes = record { live = h.live; ended = h.ended }
alters-short {s} w h (rows c moment cs ns known accepted) = told-short ns (applied s cs) (of-kept (applied-operations cs s) h)
alters-short {s} w h (enters c moment task ns known accepted) =
    told-short ns (entered s task moment) (entered-short s task moment (begins-short s task w.names (begins accepted)) h)
alters-short {s} w h (hands_out o moment call rest ns early first calls) =
    let own = h.live.at o (find-some (λ (x : Operation Task). is_pending x.status) s.operations.live o first).0 in
    told-short ns _ (same-work (moved o.number Running moment s) o (handing_out o.work rest) (handed own) (moved-short s o.number Running moment h)) where
      handed : IsShortTask o.work → IsShortTask (handing_out o.work rest)
      handed e = record { project = e.project; pool = e.pool; instance = e.instance; name = e.name }
alters-short {s} w h (goes_on o call rest l calls) =
    let own = its-own s o l.live h in
    same-work s o (one_more_done o.work rest) (record { project = own.project; pool = own.pool; instance = own.instance; name = own.name }) h
alters-short {s} w h (takes_back o call l undo) =
    let own = its-own s o l.live h in
    same-work s o (undone o.work) (record { project = own.project; pool = own.pool; instance = own.instance; name = own.name }) h
alters-short {s} w h (turns o moment ns early l may) = told-short ns _ (moved-short s o.number Cancelling moment h)
alters-short {s} w h (cancels o moment ns early live why) = told-short ns _ (cancelled-short s o.number moment h)
alters-short {s} w h (fails o why done moment ns early l) = told-short ns _ (failed-short s o why done moment h)
alters-short {s} w h (succeeds o moment lives ns early l none) = told-short ns _ (told-short lives _ (succeeded-short s o moment h))

pub stay-short : StayShort
stay-short s e outcome after w possible h is = alters-short w h (step-alters s e outcome after w possible is)
