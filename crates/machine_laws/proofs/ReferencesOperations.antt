-- Steps of live operations leave the references.
use Rattle.std.proofs.Common.{◌≡◌, ℕ, Bool, true, false, cond, Some, List, [], ◌∷◌, refl, sym, ◌∙◌, ap, subst, inl, inr}
use Rattle.std.specs.List.{find}
use Rattle.plain_lists.specs.Members.{Mem}
use Rattle.plain_lists.specs.Puts.{Puts}
use Rattle.plain_lists.specs.Edits.{changed_first, dropped}
use Rattle.plain_lists.proofs.PutsLemmas.{Mem-Puts, Mem-puts, Mem-unputs}
use Rattle.plain_lists.proofs.Searches.{find-some}
use Rattle.plain_lists.proofs.EditLemmas.{changed-Puts, find-changed, Mem-dropped}
use Rattle.operations.specs.declared.operation.Operation.{Operation}
use Rattle.operations.specs.declared.operation.OpFault.{OpFault}
use Rattle.operations.specs.declared.status.Status.{Status}
use Rattle.operations.specs.OperationTable.{has_number, live_at}
use Rattle.records.specs.declared.notices.Untold.{Untold}
use Rattle.row_machine.specs.machine.Task.{Task}
use Rattle.row_machine.specs.machine.State.{State}
use Rattle.row_machine.specs.shown.Notices.{telling, push_notice}
use Rattle.row_machine.specs.machine.Operations.{with_task, moved, failed, cancelled, after_failure}
use Rattle.row_machine.specs.facts.Whole.{ReferencesExist}
use Rattle.machine_laws.proofs.ReferencesCore.{bare, core, AreOf, IsSameTask, references-fewer, references-core}

-- ---- lists of live operations

-- one operation has other calls, another status or another moment
pub AreOf-changed : (n : ℕ) (f : Operation Task → Operation Task) (o : Operation Task) (live : List (Operation Task))
    → find (has_number n) live ≡ Some o → IsSameTask o.work (f o).work
    → AreOf live (changed_first (has_number n) f live)
AreOf-changed n f o live found same = record { at = λ x m. at x (changed-Puts (has_number n) f o live found) m } where
  at : (x : Operation Task)
      → (base : List (Operation Task)) × (Puts o base live × Puts (f o) base (changed_first (has_number n) f live))
      → Mem x (changed_first (has_number n) f live)
      → (y : Operation Task) × (Mem y live × IsSameTask y.work x.work)
  at x put m = elim (Mem-unputs x put.1.1 m) [
    | inl e ↦ (o, (Mem-Puts put.1.0, subst (λ (z : Operation Task). IsSameTask o.work z.work) (sym e) same))
    | inr k ↦ (x, (Mem-puts x put.1.0 k, refl))
  ]

pub AreOf-dropped : (p : Operation Task → Bool) (live : List (Operation Task)) → AreOf live (dropped p live)
AreOf-dropped p live = record { at = λ o m. (o, (Mem-dropped o p live m, refl)) }

-- a live operation is found under its number
number_itself : (s : State) (o : Operation Task) → live_at s.operations o.number ≡ Some o
    → has_number o.number o ≡ true
number_itself s o live = (find-some (has_number o.number) s.operations.live o live).1

-- ---- steps

pub task-references : (s : State) (o : Operation Task) (task : Task) → live_at s.operations o.number ≡ Some o
    → IsSameTask o.work task
    → ReferencesExist s → ReferencesExist (with_task o.number task s)
task-references s o task live same h =
    references-fewer s (with_task o.number task s) refl
    (AreOf-changed o.number (λ x. record x { work = task }) o s.operations.live live same) h

pub moved-references : (s : State) (o : Operation Task) (now : Status) (moment : ℕ)
    → live_at s.operations o.number ≡ Some o
    → ReferencesExist s → ReferencesExist (moved o.number now moment s)
moved-references s o now moment live h =
    references-fewer s (moved o.number now moment s) refl
    (AreOf-changed o.number (λ x. record x { status = now; updated = moment }) o s.operations.live live refl) h

-- moved, and with further calls
pub running-references : (s : State) (o : Operation Task) (task : Task) (now : Status) (moment : ℕ)
    → live_at s.operations o.number ≡ Some o → IsSameTask o.work task
    → ReferencesExist s → ReferencesExist (with_task o.number task (moved o.number now moment s))
running-references s o task now moment live same h =
    task-references (moved o.number now moment s) (record o { status = now; updated = moment }) task
    (find-changed (has_number o.number) (λ x. record x { status = now; updated = moment }) o s.operations.live live (number_itself s o live))
    same
    (moved-references s o now moment live h)

pub ended-references : (s t : State) (p : Operation Task → Bool) → bare t [] ≡ bare s []
    → t.operations.live ≡ dropped p s.operations.live → ReferencesExist s → ReferencesExist t
ended-references s t p same live h =
    references-fewer s t same (subst (AreOf s.operations.live) (sym live) (AreOf-dropped p s.operations.live)) h

pub cancelled-references : (s : State) (number moment : ℕ) → ReferencesExist s → ReferencesExist (cancelled s number moment)
unfolding cancelled
cancelled-references s number moment h = ended-references s (cancelled s number moment) (has_number number) refl refl h

-- of two states with the same rows and operations, either
either_core : (b : Bool) (s t u : State) → core t ≡ core s → core u ≡ core s → core (cond b t u) ≡ core s
either_core true s t u e f = e
either_core false s t u e f = f

pub failure_core : (task : Task) (done : ℕ) (s : State) → core (after_failure task done s) ≡ core s
failure_core task done s = either_core _ s _ s refl refl

pub failed-references : (s : State) (o : Operation Task) (why : OpFault) (done moment : ℕ) → ReferencesExist s
    → ReferencesExist (failed s o why done moment)
unfolding failed
failed-references s o why done moment h =
    ended-references s (failed s o why done moment) (has_number o.number)
    (ap (λ x. bare x []) (failure_core o.work done s))
    (ap (λ (x : State). dropped (has_number o.number) x.operations.live) (failure_core o.work done s))
    h

pub telling_core : (notices : List Untold) (s : State) → core (telling notices s) ≡ core s
telling_core [] s = refl
telling_core (n ∷ ns) s = telling_core ns (push_notice n s) ∙ either_core _ s s _ refl refl

pub telling-references : (notices : List Untold) (s : State) → ReferencesExist s → ReferencesExist (telling notices s)
telling-references notices s h = references-core s (telling notices s) (telling_core notices s) h
