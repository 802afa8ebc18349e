-- What a step can make of a state, kind by kind: every event with each outcome is one of them.
use Rattle.std.proofs.Common.{◌≡◌, ℕ, ◌<◌, Bool, true, false, Option, Some, None, List, [], ◌∷◌, ◌++◌, refl, sym, ap, subst}
use Rattle.std.proofs.lemmas.Bool.{eqb-true}
use Rattle.plain_lists.proofs.Searches.{find-some}
use Rattle.size_values.specs.Moments.{moment_limit}
use Rattle.host_model.specs.declared.call.HostCall.{HostCall}
use Rattle.host_model.specs.declared.report.Report.{Report}
use Rattle.host_model.specs.declared.report.Report.TheVariants as report
use Rattle.operations.specs.declared.operation.Operation.{Operation}
use Rattle.operations.specs.declared.operation.OpFault.{OpFault}
use Rattle.operations.specs.declared.status.Status.{Status}
use Rattle.operations.specs.declared.status.Status.TheVariants as status
use Rattle.operations.specs.declared.status.Status.TheVariants.{Pending, Running, Cancelling}
use Rattle.operations.specs.Statuses.{is_live, cancel_of}
use Rattle.operations.specs.OperationTable.{has_number, live_at, kept_at, cancel_answer}
use Rattle.operations.proofs.KeptLemmas.{live-from_kept}
use Rattle.records.specs.Forms.{is_formed}
use Rattle.records.specs.declared.commands.Command.{Command}
use Rattle.records.specs.declared.commands.What.{What}
use Rattle.records.specs.declared.commands.What.TheVariants as what
use Rattle.records.specs.declared.notices.Filter.{Filter}
use Rattle.records.specs.declared.notices.Untold.{Untold}
use Rattle.records.specs.declared.refusals.Refusal.{Refusal}
use Rattle.row_machine.specs.declared.changes.RowChange.{RowChange}
use Rattle.row_machine.specs.declared.events.Event.{Event}
use Rattle.row_machine.specs.declared.events.Event.TheVariants as event
use Rattle.row_machine.specs.machine.Task.{Task}
use Rattle.row_machine.specs.machine.State.{State}
use Rattle.row_machine.specs.machine.Changes.{applied}
use Rattle.row_machine.specs.machine.Plans.{Plan, nothing, changes, starts, plan_of}
use Rattle.row_machine.specs.machine.Operations.{entered, moved, with_task, handing_out, one_more_done, undone, succeeded, failed, cancelled, success_changes}
use Rattle.row_machine.specs.shown.Notices.{telling, operation_notice, change_notices, success_notices}
use Rattle.row_machine.specs.machine.Rules.{broken}
use Rattle.row_machine.specs.machine.Accept.{After, accepted, carried_out, with_operation_notice, after_cancel, cancel_or_read}
use Rattle.row_machine.specs.machine.Step.{Outcome, well, keeper_failed, no_memory, step, after_command, unavailable, taken, handed_out, first_pending, done, reported, while_running, while_cancelling, call_done, call_failed, committed, stray, always, fetched}
use Rattle.row_machine.specs.facts.Whole.{IsWhole}
use Rattle.machine_laws.specs.Possible.{IsPossible}
use Rattle.machine_laws.proofs.Cases.{IsAccepted, IsLiveAs}
use Rattle.machine_laws.proofs.Base.{live-number}

-- why an operation can be cancelled: it waits and may be cancelled, or it was being cancelled and its deed was taken back
pub data IsCancellable (o : Operation Task) : Type 0 where
  waits : o.status ≡ Pending → o.may_cancel ≡ true → IsCancellable o
  taken_back : o.status ≡ Cancelling → o.work.undo ≡ None → IsCancellable o

-- what is known of the command of an event
abbrev pub AsksOnly : (Command → Type 0) → Event → Type 0
AsksOnly Q (event.Ask c moment) = Q c
AsksOnly Q other = Unit {0}

-- The state after a step: as it was, or changed in one of these ways. Notices are told besides. Of the command of a request
-- something may be known.
pub data AltersBy (Q : Command → Type 0) (s : State) : State → Type 0 where
  stays : AltersBy Q s s
  closes : AltersBy Q s (record s { closed = true })
  rows : (c : Command) (moment : ℕ) (cs : List RowChange) (ns : List Untold) → Q c → IsAccepted s c moment (changes cs) → AltersBy Q s (telling ns (applied s cs))
  enters : (c : Command) (moment : ℕ) (task : Task) (ns : List Untold) → Q c → IsAccepted s c moment (starts task) → AltersBy Q s (telling ns (entered s task moment))
  hands_out : (o : Operation Task) (moment : ℕ) (call : HostCall) (rest : List HostCall) (ns : List Untold) → moment < moment_limit → first_pending s ≡ Some o
      → o.work.calls ≡ call ∷ rest → AltersBy Q s (telling ns (with_task o.number (handing_out o.work rest) (moved o.number Running moment s)))
  goes_on : (o : Operation Task) (call : HostCall) (rest : List HostCall) → IsLiveAs s o Running → o.work.calls ≡ call ∷ rest
      → AltersBy Q s (with_task o.number (one_more_done o.work rest) s)
  takes_back : (o : Operation Task) (call : HostCall) → IsLiveAs s o Cancelling → o.work.undo ≡ Some call → AltersBy Q s (with_task o.number (undone o.work) s)
  turns : (o : Operation Task) (moment : ℕ) (ns : List Untold) → moment < moment_limit → IsLiveAs s o Running → o.may_cancel ≡ true
      → AltersBy Q s (telling ns (moved o.number Cancelling moment s))
  cancels : (o : Operation Task) (moment : ℕ) (ns : List Untold) → moment < moment_limit → live_at s.operations o.number ≡ Some o → IsCancellable o
      → AltersBy Q s (telling ns (cancelled s o.number moment))
  fails : (o : Operation Task) (why : OpFault) (done moment : ℕ) (ns : List Untold) → moment < moment_limit → IsLiveAs s o Running
      → AltersBy Q s (telling ns (failed s o why done moment))
  succeeds : (o : Operation Task) (moment : ℕ) (lives ns : List Untold) → moment < moment_limit → IsLiveAs s o Running → o.work.calls ≡ []
      → AltersBy Q s (telling ns (telling lives (succeeded s o moment)))

-- where nothing need be known
abbrev pub Alters : State → State → Type 0
Alters s t = AltersBy (λ c. Unit {0}) s t

module _ (Q : Command → Type 0) where
  -- each state that a step can leave
  abbrev Reaches : State → Option After → Type 0
  Reaches s result = (a : After) → result ≡ Some a → AltersBy Q s a.state

  none-reached : (s : State) → Reaches s None
  none-reached s a is = cc

  reached : (s : State) (b : After) → AltersBy Q s b.state → Reaches s (Some b)
  reached s b h a is = subst (λ (x : After). AltersBy Q s x.state) (some-is is) h where
    some-is : {x y : After} → Some x ≡ Some y → x ≡ y
    some-is same = cc

  -- ---- a cancel

  cancel-alters : (s : State) (moment : ℕ) (o : Operation Task) → moment < moment_limit → IsWhole s → kept_at s.operations o.number ≡ Some o
      → AltersBy Q s (after_cancel s o.number moment (cancel_of o.may_cancel o.status))
  cancel-alters s moment o early h found = by o.may_cancel o.status refl refl where
    live : is_live o.status ≡ true → live_at s.operations o.number ≡ Some o
    live is = live-from_kept s.operations o.number o h.operations.kept found is

    by : (may : Bool) (now : Status) → o.may_cancel ≡ may → o.status ≡ now → AltersBy Q s (after_cancel s o.number moment (cancel_of may now))
    by true status.Pending may now = cancels o moment (operation_notice (cancelled s o.number moment) o.number moment) early (live (ap is_live now)) (waits now may)
    by true status.Running may now = turns o moment (operation_notice (moved o.number Cancelling moment s) o.number moment) early (record { whole = h; live = live (ap is_live now); status = now }) may
    by true status.Cancelling may now = stays
    by true status.Success may now = stays
    by true status.Failure may now = stays
    by true status.Cancelled may now = stays
    by false status.Pending may now = stays
    by false status.Running may now = stays
    by false status.Cancelling may now = stays
    by false status.Success may now = stays
    by false status.Failure may now = stays
    by false status.Cancelled may now = stays

  cancels-alter : (s : State) (n moment : ℕ) → moment < moment_limit → IsWhole s → AltersBy Q s (after_cancel s n moment (cancel_answer (kept_at s.operations n)))
  cancels-alter s n moment early h = by (kept_at s.operations n) refl where
    by : (o : Option (Operation Task)) → kept_at s.operations n ≡ o → AltersBy Q s (after_cancel s n moment (cancel_answer o))
    by None found = stays
    by (Some o) found =
        let same : o.number ≡ n = eqb-true o.number n (find-some (has_number n) (s.operations.live ++ s.operations.ended) o found).1 in
        subst (λ m. AltersBy Q s (after_cancel s m moment (cancel_of o.may_cancel o.status))) same
        (cancel-alters s moment o early h (subst (λ m. kept_at s.operations m ≡ Some o) (sym same) found))

  -- ---- a request

  reads-alter : (s : State) (c : Command) (moment : ℕ) (w : What) → moment < moment_limit → IsWhole s → AltersBy Q s (cancel_or_read s c moment w).state
  reads-alter s c moment (what.Cancel op) early h = cancels-alter s op moment early h
  reads-alter s c moment what.Root early h = stays
  reads-alter s c moment what.Server early h = stays
  reads-alter s c moment (what.List of recursion) early h = stays
  reads-alter s c moment (what.Get of) early h = stays
  reads-alter s c moment (what.State of) early h = stays
  reads-alter s c moment (what.Create of body) early h = stays
  reads-alter s c moment (what.Put of body) early h = stays
  reads-alter s c moment (what.Patch of body) early h = stays
  reads-alter s c moment (what.Move of to) early h = stays
  reads-alter s c moment (what.Delete of) early h = stays
  reads-alter s c moment (what.Act of action) early h = stays
  reads-alter s c moment (what.Restore of snapshot) early h = stays
  reads-alter s c moment (what.GetOp op) early h = stays
  reads-alter s c moment (what.Wait op timeout) early h = stays

  plan-alters : (s : State) (c : Command) (moment : ℕ) (p : Plan) → Q c → IsAccepted s c moment p → AltersBy Q s (carried_out s c moment p).state
  plan-alters s c moment nothing q h = reads-alter s c moment c.what h.early h.whole
  plan-alters s c moment (changes cs) q h = rows c moment cs (change_notices s c moment) q h
  plan-alters s c moment (starts task) q h = enters c moment task (operation_notice (entered s task moment) s.operations.next moment) q h

  accepted-alters : (s : State) (c : Command) (moment : ℕ) → Q c → IsWhole s → is_formed c ≡ true → moment < moment_limit → broken s c moment ≡ None
      → AltersBy Q s (accepted s c moment).state
  unfolding accepted
  accepted-alters s c moment q h formed early unbroken =
      plan-alters s c moment (plan_of s c moment) q (record { whole = h; formed = formed; early = early; unbroken = unbroken; plan = refl })

  unavailable-alters : (s : State) (p : Plan) → IsWhole s → Reaches s (unavailable s p)
  unavailable-alters s nothing h = none-reached s
  unavailable-alters s (changes cs) h = reached s _ stays
  unavailable-alters s (starts task) h = none-reached s

  asked-alters : (s : State) (c : Command) (moment : ℕ) (outcome : Outcome) (r : Option Refusal) → Q c → IsWhole s → is_formed c ≡ true → moment < moment_limit
      → broken s c moment ≡ r → Reaches s (after_command s c moment outcome r)
  asked-alters s c moment well (Some refusal) q h formed early is = reached s _ stays
  asked-alters s c moment well None q h formed early is = reached s _ (accepted-alters s c moment q h formed early is)
  asked-alters s c moment (keeper_failed rise) (Some refusal) q h formed early is = none-reached s
  asked-alters s c moment (keeper_failed rise) None q h formed early is = unavailable-alters s (plan_of s c moment) h
  asked-alters s c moment no_memory None q h formed early is = reached s _ stays
  asked-alters s c moment no_memory (Some refusal) q h formed early is = reached s _ stays

  -- ---- a worker asks

  handed-alters : (s : State) (o : Operation Task) (moment : ℕ) (calls : List HostCall) → moment < moment_limit → IsWhole s → first_pending s ≡ Some o
      → o.work.calls ≡ calls → AltersBy Q s (handed_out s o moment calls).state
  handed-alters s o moment [] early h first is = stays
  handed-alters s o moment (call ∷ rest) early h first is = hands_out o moment call rest (operation_notice (with_task o.number (handing_out o.work rest) (moved o.number Running moment s)) o.number moment) early first is

  taken-alters : (s : State) (moment : ℕ) (o : Option (Operation Task)) → moment < moment_limit → IsWhole s → first_pending s ≡ o → AltersBy Q s (taken s moment o).state
  taken-alters s moment (Some o) early h first = handed-alters s o moment o.work.calls early h first refl
  taken-alters s moment None early h first = stays

  -- ---- a worker reports

  failure-alters : (s : State) (o : Operation Task) (why : OpFault) (n moment : ℕ) → moment < moment_limit → IsLiveAs s o status.Running
      → AltersBy Q s (with_operation_notice (failed s o why n moment) o.number moment)
  failure-alters s o why n moment early l = fails o why n moment (operation_notice (failed s o why n moment) o.number moment) early l

  success-alters : (s : State) (o : Operation Task) (moment : ℕ) → moment < moment_limit → IsLiveAs s o status.Running → o.work.calls ≡ []
      → AltersBy Q s (with_operation_notice (telling (success_notices o.work moment) (succeeded s o moment)) o.number moment)
  success-alters s o moment early l none = succeeds o moment (success_notices o.work moment) (operation_notice (telling (success_notices o.work moment) (succeeded s o moment)) o.number moment) early l none

  committed-alters : (s : State) (o : Operation Task) (moment : ℕ) (outcome : Outcome) (cs : List RowChange) → moment < moment_limit → IsLiveAs s o status.Running
      → o.work.calls ≡ [] → Reaches s (committed s o moment outcome cs)
  committed-alters s o moment well [] early l none = reached s _ (success-alters s o moment early l none)
  committed-alters s o moment well (c ∷ cs) early l none = reached s _ (success-alters s o moment early l none)
  committed-alters s o moment (keeper_failed rise) [] early l none = none-reached s
  committed-alters s o moment (keeper_failed rise) (c ∷ cs) early l none = reached s _ (failure-alters s o _ _ moment early l)
  committed-alters s o moment no_memory [] early l none = reached s _ (failure-alters s o _ _ moment early l)
  committed-alters s o moment no_memory (c ∷ cs) early l none = reached s _ (failure-alters s o _ _ moment early l)

  call_done-alters : (s : State) (o : Operation Task) (moment : ℕ) (outcome : Outcome) (calls : List HostCall) → moment < moment_limit → IsLiveAs s o status.Running
      → o.work.calls ≡ calls → Reaches s (call_done s o moment outcome calls)
  call_done-alters s o moment well (call ∷ rest) early l is = reached s _ (goes_on o call rest l is)
  call_done-alters s o moment (keeper_failed rise) (call ∷ rest) early l is = none-reached s
  call_done-alters s o moment no_memory (call ∷ rest) early l is = none-reached s
  call_done-alters s o moment well [] early l is = committed-alters s o moment well (success_changes s o.work) early l is
  call_done-alters s o moment (keeper_failed rise) [] early l is = committed-alters s o moment (keeper_failed rise) (success_changes s o.work) early l is
  call_done-alters s o moment no_memory [] early l is = committed-alters s o moment no_memory (success_changes s o.work) early l is

  call_failed-alters : (s : State) (o : Operation Task) (moment : ℕ) (outcome : Outcome) (why : OpFault) → moment < moment_limit → IsLiveAs s o status.Running
      → Reaches s (call_failed s o moment outcome why)
  call_failed-alters s o moment well why early l = reached s _ (failure-alters s o why _ moment early l)
  call_failed-alters s o moment (keeper_failed rise) why early l = none-reached s
  call_failed-alters s o moment no_memory why early l = none-reached s

  running-alters : (s : State) (o : Operation Task) (r : Report) (moment : ℕ) (outcome : Outcome) → moment < moment_limit → IsLiveAs s o status.Running
      → Reaches s (while_running s o r moment outcome)
  running-alters s o report.Done moment outcome early l = call_done-alters s o moment outcome o.work.calls early l refl
  running-alters s o (report.Failed rise) moment outcome early l = call_failed-alters s o moment outcome _ early l
  running-alters s o report.NoMemory moment outcome early l = call_failed-alters s o moment outcome _ early l

  cancelling-alters : (s : State) (o : Operation Task) (moment : ℕ) (outcome : Outcome) (undo : Option HostCall) → moment < moment_limit → IsLiveAs s o status.Cancelling
      → o.work.undo ≡ undo → Reaches s (while_cancelling s o moment outcome undo)
  cancelling-alters s o moment well (Some call) early l is = reached s _ (takes_back o call l is)
  cancelling-alters s o moment well None early l is = reached s _ (cancels o moment (operation_notice (cancelled s o.number moment) o.number moment) early l.live (taken_back l.status is))
  cancelling-alters s o moment (keeper_failed rise) None early l is = none-reached s
  cancelling-alters s o moment (keeper_failed rise) (Some call) early l is = none-reached s
  cancelling-alters s o moment no_memory None early l is = none-reached s
  cancelling-alters s o moment no_memory (Some call) early l is = none-reached s

  stray-alters : (s : State) (n : ℕ) (outcome : Outcome) → IsWhole s → Reaches s (stray s n outcome)
  stray-alters s n well h = reached s _ stays
  stray-alters s n (keeper_failed rise) h = none-reached s
  stray-alters s n no_memory h = none-reached s

  reported-alters : (s : State) (o : Operation Task) (r : Report) (moment : ℕ) (outcome : Outcome) (now : Status) → moment < moment_limit → IsWhole s
      → live_at s.operations o.number ≡ Some o → o.status ≡ now → Reaches s (reported s o r moment outcome now)
  reported-alters s o r moment outcome status.Running early h live is = running-alters s o r moment outcome early (record { whole = h; live = live; status = is })
  reported-alters s o r moment outcome status.Cancelling early h live is =
      cancelling-alters s o moment outcome o.work.undo early (record { whole = h; live = live; status = is }) refl
  reported-alters s o r moment outcome status.Pending early h live is = stray-alters s o.number outcome h
  reported-alters s o r moment outcome status.Success early h live is = stray-alters s o.number outcome h
  reported-alters s o r moment outcome status.Failure early h live is = stray-alters s o.number outcome h
  reported-alters s o r moment outcome status.Cancelled early h live is = stray-alters s o.number outcome h

  done-alters : (s : State) (n : ℕ) (r : Report) (moment : ℕ) (outcome : Outcome) (o : Option (Operation Task)) → moment < moment_limit → IsWhole s
      → live_at s.operations n ≡ o → Reaches s (done s n r moment outcome o)
  done-alters s n r moment outcome (Some o) early h found =
      reported-alters s o r moment outcome o.status early h (subst (λ m. live_at s.operations m ≡ Some o) (sym (live-number s n o found)) found) refl
  done-alters s n r moment outcome None early h found = stray-alters s n outcome h

  -- ---- all events

  always-alters : (s : State) (a : After) (outcome : Outcome) → AltersBy Q s a.state → Reaches s (always a outcome)
  always-alters s a well h = reached s a h
  always-alters s a (keeper_failed rise) h = none-reached s
  always-alters s a no_memory h = none-reached s

  fetched-alters : (s : State) (cursor : ℕ) (filter : Filter) (outcome : Outcome) → IsWhole s → Reaches s (fetched s cursor filter outcome)
  fetched-alters s cursor filter well h = reached s _ stays
  fetched-alters s cursor filter (keeper_failed rise) h = none-reached s
  fetched-alters s cursor filter no_memory h = reached s _ stays

  by-event : (s : State) (e : Event) (outcome : Outcome) → AsksOnly Q e → IsWhole s → IsPossible e → Reaches s (step s e outcome)
  unfolding step
  by-event s (event.Ask c moment) outcome q h possible = asked-alters s c moment outcome (broken s c moment) q h possible.0 possible.1 refl
  by-event s (event.Look n) outcome q h possible = always-alters s _ outcome stays
  by-event s (event.Take moment) outcome q h possible = always-alters s _ outcome (taken-alters s moment (first_pending s) possible h refl)
  by-event s (event.Done n r moment) outcome q h possible = done-alters s n r moment outcome (live_at s.operations n) possible h refl
  by-event s (event.Fetch cursor filter) outcome q h possible = fetched-alters s cursor filter outcome h
  by-event s event.Close outcome q h possible = always-alters s _ outcome closes

  pub step-alters_by : (s : State) (e : Event) (outcome : Outcome) (after : After) → AsksOnly Q e → IsWhole s → IsPossible e → step s e outcome ≡ Some after
      → AltersBy Q s after.state
  step-alters_by s e outcome after q h possible is = by-event s e outcome q h possible after is

pub step-alters : (s : State) (e : Event) (outcome : Outcome) (after : After) → IsWhole s → IsPossible e → step s e outcome ≡ Some after → Alters s after.state
step-alters s e outcome after h possible is = step-alters_by (λ c. Unit {0}) s e outcome after (nothing-known e) h possible is where
  nothing-known : (e : Event) → AsksOnly (λ c. Unit {0}) e
  nothing-known (event.Ask c moment) = tt
  nothing-known (event.Look n) = tt
  nothing-known (event.Take moment) = tt
  nothing-known (event.Done n r moment) = tt
  nothing-known (event.Fetch cursor filter) = tt
  nothing-known event.Close = tt
