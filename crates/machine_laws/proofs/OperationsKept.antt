-- Fact 5 after every change: operations are numbered and few, each instance is kept busy by one of them, and each is by its deed.
use Rattle.std.proofs.Common.{◌≡◌, ◌≢◌, ℕ, ◌+◌, ◌<◌, ◌≤◌, ◌==◌, ltb, inl, inr, Bool, true, false, cond, IsSome, Option, Some, None, List, [], ◌∷◌, ◌++◌, length, refl, sym, ◌∙◌, ap, subst, arith}
use Rattle.std.specs.Prelude.{filter}
use Rattle.std.specs.Option.{option_map, is_some}
use Rattle.std.proofs.lemmas.Bool.{eq-eqb, ltb-true, ltb-false}
use Rattle.std.proofs.lemmas.Bool.Decides.{eqb_tells}
use Rattle.std.proofs.lemmas.List.Elements.{filter-append}
use Rattle.std.proofs.lemmas.List.{length-append}
use Rattle.plain_lists.specs.Members.{Each}
use Rattle.plain_lists.specs.Edits.{changed_first, dropped}
use Rattle.plain_lists.proofs.Elements.{Each-push, Each-head, Each-tail}
use Rattle.plain_lists.proofs.EditLemmas.{Each-dropped, find-changed}
use Rattle.plain_lists.proofs.Searches.{find-none}
use Rattle.size_values.specs.Moments.{moment_limit}
use Rattle.instance_states.specs.Plans.{undo_of}
use Rattle.host_model.specs.declared.call.HostCall.{HostCall}
use Rattle.operations.specs.Limits.{most_live, number_limit}
use Rattle.operations.specs.declared.operation.Operation.{Operation}
use Rattle.operations.specs.declared.operation.OpFault.{OpFault}
use Rattle.operations.specs.declared.operation.OpFault.TheVariants as fault
use Rattle.operations.specs.declared.status.Status.{Status}
use Rattle.operations.specs.declared.status.Status.TheVariants as status
use Rattle.operations.specs.declared.status.Status.TheVariants.{Running, Cancelling}
use Rattle.operations.specs.declared.faults.EnterFault.TheVariants.{Full, Spent}
use Rattle.operations.specs.OperationTable.{OperationTable, has_number, live_at, enter_fault, ends}
use Rattle.operations.specs.OperationTable as kept
use Rattle.operations.specs.Facts.{AreKept}
use Rattle.operations.proofs.KeptLemmas.{AreKept-entered, AreKept-moved, AreKept-with_work, AreKept-ends}
use Rattle.records.specs.declared.commands.Command.{Command}
use Rattle.records.specs.declared.notices.Untold.{Untold}
use Rattle.row_machine.specs.declared.changes.RowChange.{RowChange}
use Rattle.row_machine.specs.machine.Task.{Task}
use Rattle.row_machine.specs.machine.State.{State}
use Rattle.row_machine.specs.machine.Changes.{applied}
use Rattle.row_machine.specs.machine.Holders.{busy_with, keeps_busy}
use Rattle.row_machine.specs.machine.TableRules.{entry_broken, enter_refusal}
use Rattle.row_machine.specs.machine.Plans.{changes, starts}
use Rattle.row_machine.specs.shown.Notices.{telling}
use Rattle.row_machine.specs.machine.Step.{first_pending}
use Rattle.row_machine.specs.machine.Operations.{entered, with_task, moved, handing_out, one_more_done, undone, cancelled, failed, succeeded, success_changes, power_after, with_power_after, after_failure}
use Rattle.row_machine.specs.facts.Whole.{IsWhole, AreOperations, IsByDeed}
use Rattle.machine_laws.proofs.Cases.{IsAccepted, IsLiveAs}
use Rattle.machine_laws.proofs.Judged.{entry_judged}
use Rattle.machine_laws.proofs.BeginsCases.{begins}
use Rattle.machine_laws.proofs.Base.{Each-found, count-found, first-live}
use Rattle.machine_laws.proofs.BooksSteps.{applied-same, power-keeps, failure-keeps, telling-keeps}
use Rattle.machine_laws.proofs.OperationsBegin.{begins-by_deed}
use Rattle.machine_laws.proofs.OperationsBusy.{begins-idle}

-- ---- of the kept operations alone

-- how many of some operations keep an instance busy
abbrev pub busy_in : List ℕ → List ℕ → List (Operation Task) → ℕ
busy_in project instance os = length (filter (λ (o : Operation Task). keeps_busy project instance o.work) os)

-- the fact reads nothing but the operations
pub record AreRight (k : OperationTable Task) : Type 0 where
  pub kept : AreKept k
  pub busy : (project instance : List ℕ) → busy_in project instance k.live ≤ 1
  pub deeds : Each (λ (o : Operation Task). IsByDeed o.work) k.live

pub right : {s : State} → AreOperations s → AreRight s.operations
right h = record { kept = h.kept; busy = h.busy; deeds = h.deeds }

pub from-right : (s : State) → AreRight s.operations → AreOperations s
from-right s h = record { kept = h.kept; busy = h.busy; deeds = h.deeds }

-- ---- lists

false-true : {X : Type 0} → false ≡ true → X
false-true e = cc

-- one more passes, or as many
counts-more : {X : Type 0} (b : Bool) (y : X) (zs : List X) → length zs ≤ length (cond b (y ∷ zs) zs)
counts-more true y zs = omega arith
counts-more false y zs = omega arith

counts-over : {X : Type 0} (b : Bool) (y : X) (zs ws : List X) → length zs ≤ length ws → length (cond b (y ∷ zs) zs) ≤ length (cond b (y ∷ ws) ws)
counts-over true y zs ws h = omega (arith, h)
counts-over false y zs ws h = h

count-dropped : {X : Type 0} (q p : X → Bool) (xs : List X) → length (filter q (dropped p xs)) ≤ length (filter q xs)
count-dropped q p [] = omega arith
count-dropped {X} q p (y ∷ ys) = at (p y) (count-dropped q p ys) where
  at : (b : Bool) → length (filter q (dropped p ys)) ≤ length (filter q ys)
      → length (filter q (cond b ys (y ∷ dropped p ys))) ≤ length (cond (q y) (y ∷ filter q ys) (filter q ys))
  at true more = counts-more (q y) y (filter q ys)
  at false more = counts-over (q y) y (filter q (dropped p ys)) (filter q ys) more

-- one after that does not pass, or the only one that does
count-push : {X : Type 0} (q : X → Bool) (x : X) (xs : List X) → q x ≡ false → length (filter q xs) ≤ 1 → length (filter q (xs ++ x ∷ [])) ≤ 1
count-push q x xs e h =
    subst (λ zs. length zs ≤ 1) (sym (filter-append q xs (x ∷ [])))
    (let alone : length (filter q (x ∷ [])) ≡ 0 = ap (λ b. length (cond b (x ∷ []) [])) e in
    omega (arith, length-append (filter q xs) (filter q (x ∷ [])), alone, h))

count-none : {X : Type 0} (q : X → Bool) (xs : List X) → Each (λ x. q x ≡ false) xs → length (filter q xs) ≡ 0
count-none q [] h = refl
count-none q (x ∷ xs) h = ap (λ b. length (cond b (x ∷ filter q xs) (filter q xs))) (Each-head h) ∙ count-none q xs (Each-tail h)

count-only : {X : Type 0} (q : X → Bool) (x : X) (xs : List X) → Each (λ y. q y ≡ false) xs → length (filter q (xs ++ x ∷ [])) ≤ 1
count-only {X} q x xs none =
    subst (λ zs. length zs ≤ 1) (sym (filter-append q xs (x ∷ [])))
    (omega (arith, length-append (filter q xs) (filter q (x ∷ [])), alone (q x), count-none q xs none)) where
      alone : (b : Bool) → length (cond b (x ∷ []) []) ≤ 1
      alone true = omega arith
      alone false = omega arith

-- ---- changes at once

pub operations-changes : {s : State} {c : Command} {moment : ℕ} {cs : List RowChange} → IsAccepted s c moment (changes cs) → AreOperations (applied s cs)
operations-changes {s} {c} {moment} {cs} h = from-right (applied s cs) (subst AreRight (sym (applied-same cs s).operations) (right h.whole.operations))

-- ---- entering

below : (m n : ℕ) → m ≤ n → (m == n) ≡ false → m < n
below m n h e = elim (eqb_tells m n) [ inl same ↦ false-true (sym e ∙ same.0) | inr other ↦ by (ltb m n) refl other.1 ] where
  by : (b : Bool) → ltb m n ≡ b → m ≢ n → m < n
  by true is apart = ltb-true m n is
  by false is apart = absurd (apart (let e : m ≡ n = omega (arith, ltb-false m n is, h) in e))

-- there is room, and a number
may-enter : (k : OperationTable Task) → option_map enter_refusal (enter_fault k) ≡ None → AreKept k → (length k.live < most_live) × (k.next < number_limit)
may-enter k e h = at (length k.live == most_live) (k.next == number_limit) refl refl e where
  at : (a b : Bool) → (length k.live == most_live) ≡ a → (k.next == number_limit) ≡ b
      → option_map enter_refusal (cond a (Some Full) (cond b (Some Spent) None)) ≡ None → (length k.live < most_live) × (k.next < number_limit)
  at true b live number e = cc
  at false true live number e = cc
  at false false live number e = (below (length k.live) most_live h.few_live live, below k.next number_limit h.next_limit number)

pub operations-entered : {s : State} {c : Command} {moment : ℕ} {task : Task} → IsAccepted s c moment (starts task) → AreOperations (entered s task moment)
unfolding entered entry_broken busy_with
operations-entered {s} {c} {moment} {task} h = from-right (entered s task moment) (record {
  kept = AreKept-entered (is_some (undo_of task.deed)) task moment room.0 room.1 h.early h.whole.operations.kept;
  busy = λ project instance. at project instance (keeps_busy project instance task) refl;
  deeds = Each-push (λ (o : Operation Task). IsByDeed o.work) h.whole.operations.deeds (begins-by_deed (begins h));
}) where
  room : (length s.operations.live < most_live) × (s.operations.next < number_limit)
  room = may-enter s.operations (entry_judged h).entry h.whole.operations.kept

  at : (project instance : List ℕ) (b : Bool) → keeps_busy project instance task ≡ b → busy_in project instance (entered s task moment).operations.live ≤ 1
  at project instance true is = count-only (λ (o : Operation Task). keeps_busy project instance o.work) _ s.operations.live
      (find-none (λ (o : Operation Task). keeps_busy project instance o.work) s.operations.live (begins-idle h.whole (begins h) project instance is))
  at project instance false is = count-push (λ (o : Operation Task). keeps_busy project instance o.work) _ s.operations.live is (h.whole.operations.busy project instance)

-- ---- going on

-- a live operation with another task, of the same deed on the same objects
abbrev SpeaksAs : Task → Task → Type 0
SpeaksAs task other = ((project instance : List ℕ) → keeps_busy project instance other ≡ keeps_busy project instance task) × (IsByDeed task → IsByDeed other)

there : {W : Type 0} {o : Option W} {x : W} → o ≡ Some x → IsSome o
there e = subst IsSome (sym e) refl

-- one live operation changed: its number stays
changed-right : (k : OperationTable Task) (n : ℕ) (f : Operation Task → Operation Task) (o : Operation Task) → live_at k n ≡ Some o
    → SpeaksAs o.work (f o).work → AreKept (record k { live = changed_first (has_number n) f k.live }) → AreRight k
    → AreRight (record k { live = changed_first (has_number n) f k.live })
changed-right k n f o e same keeps h = record {
  kept = keeps;
  busy = λ project instance. subst (λ m. m ≤ 1)
      (sym (count-found (λ (x : Operation Task). keeps_busy project instance x.work) (has_number n) f o k.live e (same.0 project instance)))
      (h.busy project instance);
  deeds = Each-found (λ (x : Operation Task). IsByDeed x.work) (has_number n) f o k.live e same.1 h.deeds;
}

-- an operation out
ended-right : (k : OperationTable Task) (n : ℕ) (now : Status) (why : OpFault) (moment : ℕ) → AreKept (ends n now why moment k) → AreRight k → AreRight (ends n now why moment k)
ended-right k n now why moment keeps h = record {
  kept = keeps;
  busy = λ project instance. let few = count-dropped (λ (o : Operation Task). keeps_busy project instance o.work) (has_number n) k.live in
      omega (arith, few, h.busy project instance);
  deeds = Each-dropped (has_number n) h.deeds;
}

-- what the deed says of a task reads no calls
calls-apart : (task : Task) (calls : List HostCall) (undo : Option HostCall) (done : ℕ) → SpeaksAs task (record task { calls = calls; undo = undo; done = done })
calls-apart task calls undo done = (
  λ project instance. refl,
  λ h. record { target = h.target; source = h.source; kind = h.kind; named = h.named; replaces = h.replaces },
)

pub operations-taken : (s : State) (o : Operation Task) (moment : ℕ) {call : HostCall} {rest : List HostCall} → moment < moment_limit → IsWhole s → first_pending s ≡ Some o
    → o.work.calls ≡ call ∷ rest → AreOperations (with_task o.number (handing_out o.work rest) (moved o.number Running moment s))
operations-taken s o moment {call} {rest} early h first calls = from-right _ (next (moved_right)) where
  live : live_at s.operations o.number ≡ Some o
  live = (first-live s o h first).0

  running : Operation Task
  running = record o { status = Running; updated = moment }

  later : OperationTable Task
  later = kept.moved o.number Running moment s.operations

  moved_right : AreRight later
  moved_right = changed-right s.operations o.number (λ (x : Operation Task). record x { status = Running; updated = moment }) o live
      ((λ project instance. refl), (λ d. d)) (AreKept-moved o.number Running moment (there live) refl early h.operations.kept) (right h.operations)

  still : live_at later o.number ≡ Some running
  still = find-changed (has_number o.number) (λ (x : Operation Task). record x { status = Running; updated = moment }) o s.operations.live live
      (eq-eqb o.number o.number refl)

  next : AreRight later → AreRight (kept.with_work o.number (handing_out o.work rest) later)
  next r = changed-right later o.number (λ (x : Operation Task). record x { work = handing_out o.work rest }) running still
      (calls-apart o.work rest o.work.undo o.work.done) (AreKept-with_work o.number (handing_out o.work rest) (there still) r.kept) r

pub operations-next : (s : State) (o : Operation Task) {call : HostCall} {rest : List HostCall} → IsLiveAs s o Running → o.work.calls ≡ call ∷ rest
    → AreOperations (with_task o.number (one_more_done o.work rest) s)
operations-next s o {call} {rest} l calls = from-right _
    (changed-right s.operations o.number (λ (x : Operation Task). record x { work = one_more_done o.work rest }) o l.live
    (calls-apart o.work rest o.work.undo (o.work.done + 1)) (AreKept-with_work o.number (one_more_done o.work rest) (there l.live) l.whole.operations.kept) (right l.whole.operations))

pub operations-undone : (s : State) (o : Operation Task) {call : HostCall} → IsLiveAs s o Cancelling → o.work.undo ≡ Some call
    → AreOperations (with_task o.number (undone o.work) s)
operations-undone s o {call} l undo = from-right _
    (changed-right s.operations o.number (λ (x : Operation Task). record x { work = undone o.work }) o l.live
    (calls-apart o.work o.work.calls None o.work.done) (AreKept-with_work o.number (undone o.work) (there l.live) l.whole.operations.kept) (right l.whole.operations))

pub operations-cancelling : (s : State) (o : Operation Task) (moment : ℕ) → moment < moment_limit → IsLiveAs s o Running → o.may_cancel ≡ true
    → AreOperations (moved o.number Cancelling moment s)
operations-cancelling s o moment early l may = from-right _
    (changed-right s.operations o.number (λ (x : Operation Task). record x { status = Cancelling; updated = moment }) o l.live
    ((λ project instance. refl), (λ d. d)) (AreKept-moved o.number Cancelling moment (there l.live) refl early l.whole.operations.kept) (right l.whole.operations))

-- ---- ends

pub operations-cancelled : (s : State) (o : Operation Task) (moment : ℕ) → moment < moment_limit → IsWhole s → live_at s.operations o.number ≡ Some o
    → AreOperations (cancelled s o.number moment)
unfolding cancelled
operations-cancelled s o moment early h live = from-right _
    (ended-right s.operations o.number status.Cancelled fault.None moment
    (AreKept-ends o.number status.Cancelled fault.None moment (there live) refl early h.operations.kept) (right h.operations))

pub operations-failed : (s : State) (o : Operation Task) (why : OpFault) (done moment : ℕ) → moment < moment_limit → IsLiveAs s o Running
    → AreOperations (failed s o why done moment)
unfolding failed
operations-failed s o why done moment early l = from-right _ (over (after_failure o.work done s) same) where
  same : (after_failure o.work done s).operations ≡ s.operations
  same = failure-keeps (λ t. t.operations ≡ s.operations) (λ t powers e. e) o.work done s refl

  over : (t : State) → t.operations ≡ s.operations → AreRight (ends o.number status.Failure why moment t.operations)
  over t e = subst (λ k. AreRight (ends o.number status.Failure why moment k)) (sym e)
      (ended-right s.operations o.number status.Failure why moment
      (AreKept-ends o.number status.Failure why moment (there l.live) refl early l.whole.operations.kept) (right l.whole.operations))

pub operations-succeeded : (s : State) (o : Operation Task) (moment : ℕ) → moment < moment_limit → IsLiveAs s o Running → o.work.calls ≡ []
    → AreOperations (succeeded s o moment)
unfolding succeeded
operations-succeeded s o moment early l none = from-right _ (over (applied (with_power_after o.work (power_after s o.work) s) (success_changes s o.work)) same) where
  same : (applied (with_power_after o.work (power_after s o.work) s) (success_changes s o.work)).operations ≡ s.operations
  same = (applied-same (success_changes s o.work) (with_power_after o.work (power_after s o.work) s)).operations
      ∙ power-keeps (λ t. t.operations ≡ s.operations) (λ t powers e. e) o.work (power_after s o.work) s refl

  over : (t : State) → t.operations ≡ s.operations → AreRight (ends o.number status.Success fault.None moment t.operations)
  over t e = subst (λ k. AreRight (ends o.number status.Success fault.None moment k)) (sym e)
      (ended-right s.operations o.number status.Success fault.None moment
      (AreKept-ends o.number status.Success fault.None moment (there l.live) refl early l.whole.operations.kept) (right l.whole.operations))

-- ---- notices

pub operations-telling : (s : State) (notices : List Untold) → IsWhole s → AreOperations (telling notices s)
operations-telling s notices h =
    telling-keeps AreOperations (λ t some next r. record { kept = r.kept; busy = r.busy; deeds = r.deeds }) notices s h.operations

-- ---- the end of the server's work

pub operations-closed : (s : State) → IsWhole s → AreOperations (record s { closed = true })
operations-closed s h = record { kept = h.operations.kept; busy = h.operations.busy; deeds = h.operations.deeds }
