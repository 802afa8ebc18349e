-- What a step of a worker that serves alone makes of the state.
use Rattle.std.proofs.Common.{◌≡◌, ◌≢◌, ℕ, ◌+◌, Bool, true, false, cond, Option, Some, None, List, [], ◌∷◌, refl, sym, ap, subst, ◌∙◌}
use Rattle.std.specs.Option.{option_map}
use Rattle.plain_lists.specs.Edits.{dropped}
use Rattle.plain_lists.proofs.Searches.{find-some}
use Rattle.host_model.specs.declared.call.HostCall.{HostCall}
use Rattle.host_model.specs.declared.report.Report.{Report}
use Rattle.host_model.specs.declared.report.Report.TheVariants as report
use Rattle.operations.specs.declared.operation.Operation.{Operation}
use Rattle.operations.specs.declared.operation.OpFault.{OpFault}
use Rattle.operations.specs.declared.operation.OpFault.TheVariants as fault
use Rattle.operations.specs.declared.status.Status.{Status}
use Rattle.operations.specs.declared.status.Status.TheVariants as status
use Rattle.operations.specs.declared.status.Status.TheVariants.{Pending, Running, Cancelling}
use Rattle.operations.specs.Statuses.{is_live}
use Rattle.operations.specs.OperationTable.{has_number, live_at}
use Rattle.row_machine.specs.declared.changes.RowChange.{RowChange}
use Rattle.row_machine.specs.declared.events.Answer.TheVariants as answer
use Rattle.row_machine.specs.machine.Task.{Task}
use Rattle.row_machine.specs.machine.State.{State}
use Rattle.row_machine.specs.machine.Operations.{with_task, moved, handing_out, one_more_done, undone, succeeded, failed, cancelled, success_changes}
use Rattle.row_machine.specs.shown.Notices.{telling, operation_notice, success_notices}
use Rattle.row_machine.specs.machine.Accept.{After, and_then, with_operation_notice}
use Rattle.row_machine.specs.machine.Step.{Outcome, well, keeper_failed, no_memory, step, success, failure, after_end, taken, handed_out, first_pending, done, reported, while_running, while_cancelling, call_done, call_failed, committed, always}
use Rattle.row_machine.specs.facts.Whole.{IsWhole}
use Rattle.machine_laws.specs.Waits.{Round, Served, served, hand_of, IsAlone}
use Rattle.machine_laws.proofs.Base.{live-number}
use Rattle.machine_laws.proofs.EndsShares.{told-same, cancelled-left, failed-left, succeeded-left}

-- the live operations after a step, and the one whose call is then in hand
pub data Does (s : State) : Option ℕ → Served → Type 0 where
  idles : first_pending s ≡ None → Does s None (record { state = s; hand = None })
  takes : (o : Operation Task) (call : HostCall) (rest : List HostCall) (t : State) (moment : ℕ) → first_pending s ≡ Some o → o.work.calls ≡ call ∷ rest
      → t.operations ≡ (with_task o.number (handing_out o.work rest) (moved o.number Running moment s)).operations
      → Does s None (record { state = t; hand = Some o.number })
  idles_on : (o : Operation Task) → first_pending s ≡ Some o → o.work.calls ≡ [] → Does s None (record { state = s; hand = None })
  goes_on : (o : Operation Task) (call : HostCall) (rest : List HostCall) → live_at s.operations o.number ≡ Some o → o.status ≡ Running → o.work.calls ≡ call ∷ rest
      → Does s (Some o.number) (record { state = with_task o.number (one_more_done o.work rest) s; hand = Some o.number })
  takes_back : (o : Operation Task) (call : HostCall) → live_at s.operations o.number ≡ Some o → o.status ≡ Cancelling → o.work.undo ≡ Some call
      → Does s (Some o.number) (record { state = with_task o.number (undone o.work) s; hand = Some o.number })
  ends : (o : Operation Task) (t : State) → live_at s.operations o.number ≡ Some o → t.operations.live ≡ dropped (has_number o.number) s.operations.live
      → Does s (Some o.number) (record { state = t; hand = None })

-- what the worker has after a step
abbrev with_hand : After → Served
with_hand a = record { state = a.state; hand = hand_of a.answer }

abbrev Doing : State → Option ℕ → Option After → Type 0
Doing s hand result = (x : Served) → option_map with_hand result ≡ Some x → Does s hand x

none-done : (s : State) (hand : Option ℕ) → Doing s hand None
none-done s hand x is = cc

does : (s : State) (hand : Option ℕ) (a : After) → Does s hand (with_hand a) → Doing s hand (Some a)
does s hand a h x is = subst (λ y. Does s hand y) (some-is is) h where
  some-is : {x y : Served} → Some x ≡ Some y → x ≡ y
  some-is e = cc

-- ---- a call is asked for

takes-first : (s : State) (o : Operation Task) (moment : ℕ) (calls : List HostCall) → first_pending s ≡ Some o → o.work.calls ≡ calls
    → Does s None (with_hand (handed_out s o moment calls))
takes-first s o moment [] first is = idles_on o first is
takes-first s o moment (call ∷ rest) first is =
    takes o call rest (with_operation_notice (with_task o.number (handing_out o.work rest) (moved o.number Running moment s)) o.number moment) moment first is
    (told-same (operation_notice (with_task o.number (handing_out o.work rest) (moved o.number Running moment s)) o.number moment)
    (with_task o.number (handing_out o.work rest) (moved o.number Running moment s))).operations

asks : (s : State) (moment : ℕ) (o : Option (Operation Task)) → first_pending s ≡ o → Does s None (with_hand (taken s moment o))
asks s moment (Some o) first = takes-first s o moment o.work.calls first refl
asks s moment None first = none s.closed where
  none : (b : Bool) → Does s None (with_hand (record { answer = cond b answer.Closed answer.NoJob; state = s }))
  none true = idles first
  none false = idles first

always-does : (s : State) (hand : Option ℕ) (a : After) (outcome : Outcome) → Does s hand (with_hand a) → Doing s hand (always a outcome)
always-does s hand a well h = does s hand a h
always-does s hand a (keeper_failed rise) h = none-done s hand
always-does s hand a no_memory h = none-done s hand

-- ---- a call is reported of

-- an end, with the notices of it
told-end : (s t : State) (number moment : ℕ) → (with_operation_notice t number moment).operations.live ≡ t.operations.live
told-end s t number moment = ap (λ k. k.live) (told-same (operation_notice t number moment) t).operations

failure-does : (s : State) (o : Operation Task) (why : OpFault) (n moment : ℕ) → live_at s.operations o.number ≡ Some o
    → Does s (Some o.number) (record { state = with_operation_notice (failed s o why n moment) o.number moment; hand = None })
failure-does s o why n moment live = ends o (with_operation_notice (failed s o why n moment) o.number moment) live (told-end s (failed s o why n moment) o.number moment ∙ failed-left s o why n moment)

success-does : (s : State) (o : Operation Task) (moment : ℕ) → live_at s.operations o.number ≡ Some o
    → Does s (Some o.number) (record { state = with_operation_notice (telling (success_notices o.work moment) (succeeded s o moment)) o.number moment; hand = None })
success-does s o moment live =
    ends o (with_operation_notice (telling (success_notices o.work moment) (succeeded s o moment)) o.number moment) live
    (told-end s (telling (success_notices o.work moment) (succeeded s o moment)) o.number moment
    ∙ ap (λ k. k.live) (told-same (success_notices o.work moment) (succeeded s o moment)).operations ∙ succeeded-left s o moment)

committed-does : (s : State) (o : Operation Task) (moment : ℕ) (outcome : Outcome) (cs : List RowChange) → live_at s.operations o.number ≡ Some o
    → Doing s (Some o.number) (committed s o moment outcome cs)
committed-does s o moment well [] live = does s (Some o.number) (success s o moment) (success-does s o moment live)
committed-does s o moment well (c ∷ cs) live = does s (Some o.number) (success s o moment) (success-does s o moment live)
committed-does s o moment (keeper_failed rise) [] live = none-done s (Some o.number)
committed-does s o moment (keeper_failed rise) (c ∷ cs) live =
    does s (Some o.number) (failure s o (fault.Keeper rise.before rise.after) (o.work.done + 1) moment)
    (failure-does s o (fault.Keeper rise.before rise.after) (o.work.done + 1) moment live)
committed-does s o moment no_memory [] live =
    does s (Some o.number) (failure s o fault.NoMemory (o.work.done + 1) moment) (failure-does s o fault.NoMemory (o.work.done + 1) moment live)
committed-does s o moment no_memory (c ∷ cs) live =
    does s (Some o.number) (failure s o fault.NoMemory (o.work.done + 1) moment) (failure-does s o fault.NoMemory (o.work.done + 1) moment live)

call_done-does : (s : State) (o : Operation Task) (moment : ℕ) (outcome : Outcome) (calls : List HostCall) → live_at s.operations o.number ≡ Some o
    → o.status ≡ Running → o.work.calls ≡ calls → Doing s (Some o.number) (call_done s o moment outcome calls)
call_done-does s o moment well (call ∷ rest) live running is =
    does s (Some o.number) (and_then (answer.Job o.number call) (with_task o.number (one_more_done o.work rest) s)) (goes_on o call rest live running is)
call_done-does s o moment (keeper_failed rise) (call ∷ rest) live running is = none-done s (Some o.number)
call_done-does s o moment no_memory (call ∷ rest) live running is = none-done s (Some o.number)
call_done-does s o moment well [] live running is = committed-does s o moment well (success_changes s o.work) live
call_done-does s o moment (keeper_failed rise) [] live running is = committed-does s o moment (keeper_failed rise) (success_changes s o.work) live
call_done-does s o moment no_memory [] live running is = committed-does s o moment no_memory (success_changes s o.work) live

call_failed-does : (s : State) (o : Operation Task) (moment : ℕ) (outcome : Outcome) (why : OpFault) → live_at s.operations o.number ≡ Some o
    → Doing s (Some o.number) (call_failed s o moment outcome why)
call_failed-does s o moment well why live = does s (Some o.number) (failure s o why o.work.done moment) (failure-does s o why o.work.done moment live)
call_failed-does s o moment (keeper_failed rise) why live = none-done s (Some o.number)
call_failed-does s o moment no_memory why live = none-done s (Some o.number)

running-does : (s : State) (o : Operation Task) (r : Report) (moment : ℕ) (outcome : Outcome) → live_at s.operations o.number ≡ Some o → o.status ≡ Running
    → Doing s (Some o.number) (while_running s o r moment outcome)
running-does s o report.Done moment outcome live running = call_done-does s o moment outcome o.work.calls live running refl
running-does s o (report.Failed rise) moment outcome live running = call_failed-does s o moment outcome _ live
running-does s o report.NoMemory moment outcome live running = call_failed-does s o moment outcome _ live

cancelling-does : (s : State) (o : Operation Task) (moment : ℕ) (outcome : Outcome) (undo : Option HostCall) → live_at s.operations o.number ≡ Some o
    → o.status ≡ Cancelling → o.work.undo ≡ undo → Doing s (Some o.number) (while_cancelling s o moment outcome undo)
cancelling-does s o moment well (Some call) live now is =
    does s (Some o.number) (and_then (answer.Job o.number call) (with_task o.number (undone o.work) s)) (takes_back o call live now is)
cancelling-does s o moment well None live now is = does s (Some o.number) (after_end (cancelled s o.number moment) o.number moment)
    (ends o (with_operation_notice (cancelled s o.number moment) o.number moment) live (told-end s (cancelled s o.number moment) o.number moment ∙ cancelled-left s o.number moment))
cancelling-does s o moment (keeper_failed rise) None live now is = none-done s (Some o.number)
cancelling-does s o moment (keeper_failed rise) (Some call) live now is = none-done s (Some o.number)
cancelling-does s o moment no_memory None live now is = none-done s (Some o.number)
cancelling-does s o moment no_memory (Some call) live now is = none-done s (Some o.number)

-- the one in hand runs or is being cancelled
reported-does : (s : State) (o : Operation Task) (r : Report) (moment : ℕ) (outcome : Outcome) (now : Status) → is_live o.status ≡ true → o.status ≢ Pending
    → live_at s.operations o.number ≡ Some o → o.status ≡ now → Doing s (Some o.number) (reported s o r moment outcome now)
reported-does s o r moment outcome status.Running alive apart live is = running-does s o r moment outcome live is
reported-does s o r moment outcome status.Cancelling alive apart live is = cancelling-does s o moment outcome o.work.undo live is refl
reported-does s o r moment outcome status.Pending alive apart live is = absurd (apart is)
reported-does s o r moment outcome status.Success alive apart live is = ended (sym (ap is_live is) ∙ alive) where
  ended : {X : Type 0} → false ≡ true → X
  ended e = cc
reported-does s o r moment outcome status.Failure alive apart live is = ended (sym (ap is_live is) ∙ alive) where
  ended : {X : Type 0} → false ≡ true → X
  ended e = cc
reported-does s o r moment outcome status.Cancelled alive apart live is = ended (sym (ap is_live is) ∙ alive) where
  ended : {X : Type 0} → false ≡ true → X
  ended e = cc

-- ---- a step

pub served-does : (s : State) (hand : Option ℕ) (round : Round) (x : Served) → IsWhole s → IsAlone s hand → served s hand round ≡ Some x → Does s hand x
unfolding step
served-does s None round x h alone is = always-does s None (taken s round.moment (first_pending s)) round.outcome (asks s round.moment (first_pending s) refl) x is
served-does s (Some n) round x h alone is =
    let own = alone.own n refl in
    let o : Operation Task = own.0 in
    let same : o.number ≡ n = live-number s n o own.1.0 in
    let live : live_at s.operations o.number ≡ Some o = subst (λ m. live_at s.operations m ≡ Some o) (sym same) own.1.0 in
    let alive = h.operations.kept.all_live.at o (find-some (has_number n) s.operations.live o own.1.0).0 in
    subst (λ m. Does s (Some m) x) same
    (reported-does s o round.report round.moment round.outcome o.status alive own.1.1 live refl x
    (ap (λ found. option_map with_hand (done s n round.report round.moment round.outcome found)) (sym own.1.0) ∙ is))
