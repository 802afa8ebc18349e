-- Fact 6 after every change: the calls that are done, out and left are those of the deed, in order.
use Rattle.std.proofs.Common.{◌≡◌, ◌≢◌, ℕ, zero, suc, ◌+◌, true, Option, Some, None, List, [], ◌∷◌, map, length, drop, refl, sym, ◌∙◌, ap, subst, arith}
use Rattle.std.specs.Prelude.{IfSome}
use Rattle.std.specs.Option.{option_map, is_some}
use Rattle.std.proofs.lemmas.List.{length-map}
use Rattle.plain_lists.specs.Members.{Each}
use Rattle.plain_lists.proofs.Elements.{Each-push}
use Rattle.plain_lists.proofs.EditLemmas.{Each-dropped}
use Rattle.instance_states.specs.Plans.{calls_of, undo_of, name_of}
use Rattle.instance_states.specs.declared.plan.CallName.{CallName}
use Rattle.host_model.specs.declared.call.HostCall.{HostCall}
use Rattle.operations.specs.declared.operation.Operation.{Operation}
use Rattle.operations.specs.declared.operation.OpFault.{OpFault}
use Rattle.operations.specs.declared.operation.OpFault.TheVariants as fault
use Rattle.operations.specs.declared.status.Status.TheVariants.{Pending, Running, Cancelling}
use Rattle.operations.specs.OperationTable.{OperationTable, has_number, live_at}
use Rattle.records.specs.declared.commands.Command.{Command}
use Rattle.records.specs.declared.notices.Untold.{Untold}
use Rattle.row_machine.specs.declared.changes.RowChange.{RowChange}
use Rattle.row_machine.specs.machine.Task.{Task}
use Rattle.row_machine.specs.machine.State.{State}
use Rattle.row_machine.specs.machine.Changes.{applied}
use Rattle.row_machine.specs.machine.Plans.{changes, starts}
use Rattle.row_machine.specs.shown.Notices.{telling}
use Rattle.row_machine.specs.machine.Step.{first_pending}
use Rattle.row_machine.specs.machine.Operations.{entered, with_task, moved, handing_out, one_more_done, undone, cancelled, failed, succeeded, success_changes, power_after, with_power_after}
use Rattle.row_machine.specs.facts.Whole.{IsWhole, IsUnderWay, calls_out}
use Rattle.machine_laws.proofs.Cases.{IsAccepted, IsLiveAs}
use Rattle.machine_laws.proofs.BeginsCases.{begins}
use Rattle.machine_laws.proofs.Base.{Each-found, first-live, taken-each, handed}
use Rattle.machine_laws.proofs.BooksSteps.{applied-same, power-keeps, failure-keeps, telling-keeps}
use Rattle.machine_laws.proofs.OperationsBegin.{IsPlanned, begins-planned}

-- the fact reads nothing but the live operations
abbrev pub AreUnderWay : State → Type 0
AreUnderWay s = Each IsUnderWay s.operations.live

-- ---- an operation as it begins

waiting : (task : Task) (n moment : ℕ) (why : OpFault) → IsPlanned task
    → IsUnderWay (record { number = n; created = moment; updated = moment; status = Pending; may_cancel = is_some (undo_of task.deed); fault = why; work = task })
waiting task n moment why h = record {
  calls = let long : length (map name_of task.calls) ≡ length (calls_of task.deed) = ap length h.calls in
      omega (arith, h.done, length-map task.calls name_of, long);
  left = h.calls ∙ ap (λ d. drop (d + 0) (calls_of task.deed)) (sym h.done);
  waiting = λ is. h.done;
  cancellable = refl;
  undo = λ apart. h.undo;
  cancelling = λ is. cc;
  undoing = by task.undo h.undo;
} where
  by : (o : Option HostCall) → option_map name_of o ≡ undo_of task.deed → IfSome o (λ c. Some (name_of c) ≡ undo_of task.deed)
  by None e = tt
  by (Some c) e = e

pub under_way-changes : {s : State} {c : Command} {moment : ℕ} {cs : List RowChange} → IsAccepted s c moment (changes cs) → AreUnderWay (applied s cs)
under_way-changes {s} {c} {moment} {cs} h = subst (λ (k : OperationTable Task). Each IsUnderWay k.live) (sym (applied-same cs s).operations) h.whole.under_way

pub under_way-entered : {s : State} {c : Command} {moment : ℕ} {task : Task} → IsAccepted s c moment (starts task) → AreUnderWay (entered s task moment)
unfolding entered
under_way-entered {s} {c} {moment} {task} h =
    Each-push IsUnderWay h.whole.under_way (waiting task s.operations.next moment fault.None (begins-planned (begins h)))

-- ---- a call more handed out

-- what is left of a list after its first element
one-less : {X : Type 0} (n : ℕ) (xs : List X) (y : X) (ys : List X) → y ∷ ys ≡ drop n xs → ys ≡ drop (n + 1) xs
one-less zero [] y ys e = cc
one-less (suc n) [] y ys e = cc
one-less zero (x ∷ xs) y ys e = cc
one-less (suc n) (x ∷ xs) y ys e = one-less n xs y ys e ∙ ap (λ m. drop m (x ∷ xs)) (let same : suc (n + 1) ≡ suc n + 1 = omega arith in same)

tail-names : (call : HostCall) (rest : List HostCall) (calls : List HostCall) (n : ℕ) (names : List CallName) → calls ≡ call ∷ rest → map name_of calls ≡ drop n names
    → map name_of rest ≡ drop (n + 1) names
tail-names call rest calls n names is e = one-less n names (name_of call) (map name_of rest) (ap (map name_of) (sym is) ∙ e)

-- the calls of an operation of which one is handed out more
going : (o : Operation Task) (call : HostCall) (rest : List HostCall) (moment : ℕ) → o.status ≡ Pending → o.work.calls ≡ call ∷ rest → IsUnderWay o
    → IsUnderWay (handed o rest moment)
going o call rest moment pending is h =
    let none : calls_out o.status ≡ 0 = ap calls_out pending in
    let done : o.work.done ≡ 0 = h.waiting pending in
    record {
      calls = let long : length o.work.calls ≡ suc (length rest) = ap length is in omega (arith, h.calls, none, long);
      left = tail-names call rest o.work.calls (o.work.done + calls_out o.status) (calls_of o.work.deed) is h.left
          ∙ ap (λ n. drop n (calls_of o.work.deed)) (let e : o.work.done + calls_out o.status + 1 ≡ o.work.done + 1 = omega (arith, none) in e);
      waiting = λ e. cc;
      cancellable = h.cancellable;
      undo = λ apart. h.undo (λ e. pending-apart (sym pending ∙ e));
      cancelling = λ e. cc;
      undoing = h.undoing;
    } where
      pending-apart : Pending ≢ Cancelling
      pending-apart e = cc

pub under_way-taken : (s : State) (o : Operation Task) (moment : ℕ) {call : HostCall} {rest : List HostCall} → IsWhole s → first_pending s ≡ Some o
    → o.work.calls ≡ call ∷ rest → AreUnderWay (with_task o.number (handing_out o.work rest) (moved o.number Running moment s))
under_way-taken s o moment {call} {rest} h first calls =
    let found = first-live s o h first in
    taken-each IsUnderWay s o rest moment found.0 (going o call rest moment found.1 calls) h.under_way

-- ---- a call done, and the next one handed out

further : (o : Operation Task) (call : HostCall) (rest : List HostCall) → o.status ≡ Running → o.work.calls ≡ call ∷ rest → IsUnderWay o
    → IsUnderWay (record o { work = one_more_done o.work rest })
further o call rest running is h =
    let one : calls_out o.status ≡ 1 = ap calls_out running in
    record {
      calls = let long : length o.work.calls ≡ suc (length rest) = ap length is in omega (arith, h.calls, one, long);
      left = tail-names call rest o.work.calls (o.work.done + calls_out o.status) (calls_of o.work.deed) is h.left
          ∙ ap (λ n. drop n (calls_of o.work.deed))
          (let e : o.work.done + calls_out o.status + 1 ≡ o.work.done + 1 + calls_out o.status = omega arith in e);
      waiting = λ e. absurd (running-apart (sym running ∙ e));
      cancellable = h.cancellable;
      undo = h.undo;
      cancelling = h.cancelling;
      undoing = h.undoing;
    } where
      running-apart : Running ≢ Pending
      running-apart e = cc

pub under_way-next : (s : State) (o : Operation Task) {call : HostCall} {rest : List HostCall} → IsLiveAs s o Running → o.work.calls ≡ call ∷ rest
    → AreUnderWay (with_task o.number (one_more_done o.work rest) s)
under_way-next s o {call} {rest} l calls =
    Each-found IsUnderWay (has_number o.number) (λ (x : Operation Task). record x { work = one_more_done o.work rest }) o s.operations.live l.live
    (further o call rest l.status calls) l.whole.under_way

-- ---- the undo call handed out, and an operation that becomes Cancelling

undoing : (o : Operation Task) → o.status ≡ Cancelling → IsUnderWay o → IsUnderWay (record o { work = undone o.work })
undoing o is h = record {
  calls = h.calls;
  left = h.left;
  waiting = h.waiting;
  cancellable = h.cancellable;
  undo = λ apart. absurd (apart is);
  cancelling = h.cancelling;
  undoing = tt;
}

pub under_way-undone : (s : State) (o : Operation Task) {call : HostCall} → IsLiveAs s o Cancelling → o.work.undo ≡ Some call
    → AreUnderWay (with_task o.number (undone o.work) s)
under_way-undone s o {call} l undo =
    Each-found IsUnderWay (has_number o.number) (λ (x : Operation Task). record x { work = undone o.work }) o s.operations.live l.live
    (undoing o l.status) l.whole.under_way

turning : (o : Operation Task) (moment : ℕ) → o.status ≡ Running → o.may_cancel ≡ true → IsUnderWay o → IsUnderWay (record o { status = Cancelling; updated = moment })
turning o moment running may h =
    let one : calls_out o.status ≡ 1 = ap calls_out running in
    record {
      calls = omega (arith, h.calls, one);
      left = h.left ∙ ap (λ n. drop n (calls_of o.work.deed)) (let e : o.work.done + calls_out o.status ≡ o.work.done + 1 = omega (arith, one) in e);
      waiting = λ e. cc;
      cancellable = h.cancellable;
      undo = λ apart. absurd (apart refl);
      cancelling = λ e. may;
      undoing = h.undoing;
    }

pub under_way-cancelling : (s : State) (o : Operation Task) (moment : ℕ) → IsLiveAs s o Running → o.may_cancel ≡ true → AreUnderWay (moved o.number Cancelling moment s)
under_way-cancelling s o moment l may =
    Each-found IsUnderWay (has_number o.number) (λ (x : Operation Task). record x { status = Cancelling; updated = moment }) o s.operations.live l.live
    (turning o moment l.status may) l.whole.under_way

-- ---- ends

pub under_way-cancelled : (s : State) (o : Operation Task) (moment : ℕ) → IsWhole s → live_at s.operations o.number ≡ Some o → AreUnderWay (cancelled s o.number moment)
unfolding cancelled
under_way-cancelled s o moment h live = Each-dropped (has_number o.number) h.under_way

pub under_way-failed : (s : State) (o : Operation Task) (why : OpFault) (done moment : ℕ) → IsLiveAs s o Running → AreUnderWay (failed s o why done moment)
unfolding failed
under_way-failed s o why done moment l =
    Each-dropped (has_number o.number)
    (subst (λ (k : OperationTable Task). Each IsUnderWay k.live)
    (sym (failure-keeps (λ t. t.operations ≡ s.operations) (λ t powers e. e) o.work done s refl)) l.whole.under_way)

pub under_way-succeeded : (s : State) (o : Operation Task) (moment : ℕ) → IsLiveAs s o Running → o.work.calls ≡ [] → AreUnderWay (succeeded s o moment)
unfolding succeeded
under_way-succeeded s o moment l none =
    Each-dropped (has_number o.number)
    (subst (λ (k : OperationTable Task). Each IsUnderWay k.live)
    (sym ((applied-same (success_changes s o.work) (with_power_after o.work (power_after s o.work) s)).operations
    ∙ power-keeps (λ t. t.operations ≡ s.operations) (λ t powers e. e) o.work (power_after s o.work) s refl))
    l.whole.under_way)

-- ---- notices

pub under_way-telling : (s : State) (notices : List Untold) → IsWhole s → AreUnderWay (telling notices s)
under_way-telling s notices h = telling-keeps AreUnderWay (λ t some next r. r) notices s h.under_way

-- ---- the end of the server's work

pub under_way-closed : (s : State) → IsWhole s → AreUnderWay (record s { closed = true })
under_way-closed s h = h.under_way
