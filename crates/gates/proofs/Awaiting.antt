-- A turn that does not ring a bell leaves what is waited for by it as it was.
use Rattle.std.proofs.Common.{◌≡◌, ◌==◌, ◌++◌, ℕ, Bool, true, false, cond, is_some, find, List, [], ◌∷◌, Option, Some, None}
use Rattle.std.proofs.Common.{Result, Ok, Err, refl, ap, sym, ◌∙◌, subst, arith}
use Rattle.std.proofs.lemmas.Bool.Decides.{nat_tests}
use Rattle.std.specs.Option.{option_map_or}
use Rattle.plain_lists.specs.Edits.{changed_first, dropped}
use Rattle.host_model.specs.declared.call.HostCall.{HostCall}
use Rattle.host_model.specs.declared.report.Report.{Report}
use Rattle.host_model.specs.declared.report.Report.TheVariants as report
use Rattle.operations.specs.OperationTable.{OperationTable, cancel_answer, has_number, kept_at, live_at}
use Rattle.operations.specs.Statuses.{cancel_of, is_pending}
use Rattle.operations.specs.declared.faults.CancelFault.{CancelFault}
use Rattle.operations.specs.declared.operation.Operation.{Operation}
use Rattle.operations.specs.declared.operation.OpFault.{OpFault}
use Rattle.operations.specs.declared.status.Status.{Status}
use Rattle.operations.specs.declared.status.Status.TheVariants as status
use Rattle.records.specs.declared.commands.Command.{Command}
use Rattle.records.specs.declared.commands.What.{What}
use Rattle.records.specs.declared.commands.What.TheVariants as what
use Rattle.records.specs.declared.notices.Untold.{Untold}
use Rattle.records.specs.declared.refusals.Refusal.{Refusal}
use Rattle.records.specs.declared.replies.Reply.TheVariants as reply
use Rattle.records.specs.declared.rows.Row.{Row}
use Rattle.records.specs.declared.rows.Row.TheVariants as row
use Rattle.size_values.specs.declared.kinds.ObjectKind.{ObjectKind}
use Rattle.size_values.specs.declared.kinds.ObjectKind.TheVariants as kind
use Rattle.row_machine.specs.declared.changes.RowChange.{RowChange}
use Rattle.row_machine.specs.declared.changes.RowChange.TheVariants as change
use Rattle.row_machine.specs.declared.events.Answer.{Answer}
use Rattle.row_machine.specs.declared.events.Event.{Event}
use Rattle.row_machine.specs.declared.events.Event.TheVariants as event
use Rattle.row_machine.specs.machine.State.{State}
use Rattle.row_machine.specs.machine.Task.{Task}
use Rattle.row_machine.specs.machine.Changes.{applied, changed, with_row, without_row}
use Rattle.row_machine.specs.machine.Operations.{after_failure, cancelled, entered, failed, handing_out, moved}
use Rattle.row_machine.specs.machine.Operations.{power_after, succeeded, success_changes, with_power_after, with_task}
use Rattle.row_machine.specs.machine.Plans.{Plan, nothing, changes, starts, plan_of}
use Rattle.row_machine.specs.machine.Rules.{broken}
use Rattle.row_machine.specs.machine.Accept.{After, accepted, after_cancel, and_then, begun, cancel_or_read, carried_out}
use Rattle.row_machine.specs.machine.Accept.{with_operation_notice}
use Rattle.row_machine.specs.machine.Step.{Outcome, well, keeper_failed, no_memory, after_command, after_end, always}
use Rattle.row_machine.specs.machine.Step.{call_done, call_failed, committed, done, failure, first_pending, handed_out}
use Rattle.row_machine.specs.machine.Step.{reported, step, stray, success, taken, unavailable, while_cancelling}
use Rattle.row_machine.specs.machine.Step.{while_running}
use Rattle.row_machine.specs.shown.Notices.{change_notices, operation_notice, success_notices, telling, view_of}
use Rattle.machine_laws.proofs.BooksSteps.{failure-keeps, power-keeps, telling-keeps}
use Rattle.machine_laws.proofs.EndsLive.{found-changed}
use Rattle.machine_laws.proofs.NamesApplied.{applied-operations}
use Rattle.turnstile.specs.Bells.{is_rung}
use Rattle.turnstile.specs.declared.bells.Bell.{Bell}
use Rattle.turnstile.specs.declared.bells.Bell.TheVariants as bell
use Rattle.turnstile.specs.declared.bells.Rings.{Rings}
use Rattle.gates.specs.Awaited.{KeepsCalls, KeepsLive, NothingIsMissed, WaitsOn}
use Rattle.gates.specs.Bells.{begins, closes, ends, purpose_of_command, rings_at, rings_of, rings_of_reply, tells}
use Rattle.gates.specs.declared.bells.Purpose.TheVariants as purpose

-- ---- each bell that does not ring

abbrev Leaves : State → Rings → State → Type 0
Leaves s rings t = (b : Bell) → is_rung rings b ≡ false → WaitsOn b s t

-- the same of what a step comes to
abbrev LeavesBy : State → (Answer → Rings) → Option After → Type 0
LeavesBy s rings None = Unit {0}
LeavesBy s rings (Some after) = Leaves s (rings after.answer) after.state

rings_already : {X : Type 0} → true ≡ false → X
rings_already is = cc

-- ---- lists

found_before : {X : Type 0} (q : X → Bool) (xs ys : List X) → is_some (find q xs) ≡ true
    → is_some (find q (xs ++ ys)) ≡ true
found_before q [] ys found = cc
found_before {X} q (x ∷ xs) ys found = at (q x) (found_before q xs ys) found where
  at : (b : Bool) → (is_some (find q xs) ≡ true → is_some (find q (xs ++ ys)) ≡ true)
      → is_some (cond b (Some x) (find q xs)) ≡ true → is_some (cond b (Some x) (find q (xs ++ ys))) ≡ true
  at true rest found = refl
  at false rest found = rest found

found_within : {X : Type 0} (q : X → Bool) (xs : List X) (y : X) (zs : List X) → q y ≡ true
    → is_some (find q ((xs ++ y ∷ []) ++ zs)) ≡ true
found_within q [] y zs is = ap (λ b. is_some (cond b (Some y) (find q zs))) is
found_within {X} q (x ∷ xs) y zs is = at (q x) (found_within q xs y zs is) where
  at : (b : Bool) → is_some (find q ((xs ++ y ∷ []) ++ zs)) ≡ true
      → is_some (cond b (Some x) (find q ((xs ++ y ∷ []) ++ zs))) ≡ true
  at true rest = refl
  at false rest = rest

none_changed : {X : Type 0} (p q : X → Bool) (f : X → X) (xs : List X) → ((x : X) → p x ≡ false → p (f x) ≡ false)
    → find p xs ≡ None → find p (changed_first q f xs) ≡ None
none_changed p q f [] keeps none = refl
none_changed {X} p q f (x ∷ xs) keeps none = at (p x) refl none (none_changed p q f xs keeps) where
  put : p x ≡ false → find p xs ≡ None → find p (changed_first q f xs) ≡ None → (c : Bool)
      → find p (cond c (f x ∷ xs) (x ∷ changed_first q f xs)) ≡ None
  put is none rest true = ap (λ b. cond b (Some (f x)) (find p xs)) (keeps x is) ∙ none
  put is none rest false = ap (λ b. cond b (Some x) (find p (changed_first q f xs))) is ∙ rest

  at : (b : Bool) → p x ≡ b → cond b (Some x) (find p xs) ≡ None
      → (find p xs ≡ None → find p (changed_first q f xs) ≡ None) → find p (changed_first q f (x ∷ xs)) ≡ None
  at true is none rest = cc
  at false is none rest = put is none (rest none) (q x)

none_dropped : {X : Type 0} (p q : X → Bool) (xs : List X) → find p xs ≡ None → find p (dropped q xs) ≡ None
none_dropped p q [] none = refl
none_dropped {X} p q (x ∷ xs) none = at (p x) refl none (none_dropped p q xs) where
  put : p x ≡ false → find p xs ≡ None → find p (dropped q xs) ≡ None → (c : Bool)
      → find p (cond c xs (x ∷ dropped q xs)) ≡ None
  put is none rest true = none
  put is none rest false = ap (λ b. cond b (Some x) (find p (dropped q xs))) is ∙ rest

  at : (b : Bool) → p x ≡ b → cond b (Some x) (find p xs) ≡ None
      → (find p xs ≡ None → find p (dropped q xs) ≡ None) → find p (dropped q (x ∷ xs)) ≡ None
  at true is none rest = cc
  at false is none rest = put is none (rest none) (q x)

-- ---- states

abbrev waits : Operation Task → Bool
waits o = is_pending o.status

-- nothing came about
unchanged : (s : State) (rings : Rings) → Leaves s rings s
unchanged s rings bell.Events quiet = record { notices = refl; next = refl }
unchanged s rings bell.Ends quiet = λ number live. live
unchanged s rings bell.Calls quiet = record { pending = λ none. none; closed = refl }

-- operations and the close stay
abbrev StaysOpen : State → State → Type 0
StaysOpen s t = (t.operations ≡ s.operations) × (t.closed ≡ s.closed)

live_same : (s t : State) → t.operations ≡ s.operations → KeepsLive s t
live_same s t same = λ number live. subst (λ k. is_some (live_at k number) ≡ true) (sym same) live

calls_same : (s t : State) → StaysOpen s t → KeepsCalls s t
calls_same s t same = record {
  pending = λ none. subst (λ (k : OperationTable Task). find waits k.live ≡ None) (sym same.0) none;
  closed = same.1;
}

told_same : (ns : List Untold) (t : State) → StaysOpen t (telling ns t)
told_same ns t = telling-keeps (StaysOpen t) (λ u some next same. same) ns t (refl, refl)

-- of what was told, listeners hear
then_told : (s t : State) (rings : Rings) (ns : List Untold) → rings.events ≡ true → Leaves s rings t
    → Leaves s rings (telling ns t)
then_told s t rings ns rung leaves bell.Events quiet = rings_already (sym rung ∙ quiet)
then_told s t rings ns rung leaves bell.Ends quiet =
    λ number live. live_same t (telling ns t) (told_same ns t).0 number (leaves bell.Ends quiet number live)
then_told s t rings ns rung leaves bell.Calls quiet = record {
  pending = λ none. (calls_same t (telling ns t) (told_same ns t)).pending (kept.pending none);
  closed = (told_same ns t).1 ∙ kept.closed;
} where
  kept : KeepsCalls s t
  kept = leaves bell.Calls quiet

noted : (s t : State) (rings : Rings) (number moment : ℕ) → rings.events ≡ true → Leaves s rings t
    → Leaves s rings (with_operation_notice t number moment)
noted s t rings number moment rung leaves = then_told s t rings (operation_notice t number moment) rung leaves

-- ---- rows

with_closed : (r : Row) (s : State) → (with_row r s).closed ≡ s.closed
with_closed (row.Project r) s = refl
with_closed (row.Profile r) s = refl
with_closed (row.Network r) s = refl
with_closed (row.Pool r) s = refl
with_closed (row.Volume r) s = refl
with_closed (row.Instance r) s = refl
with_closed (row.Snapshot r) s = refl

without_closed : (k : ObjectKind) (key : List ℕ) (s : State) → (without_row k key s).closed ≡ s.closed
without_closed kind.Project key s = refl
without_closed kind.Profile key s = refl
without_closed kind.Network key s = refl
without_closed kind.Pool key s = refl
without_closed kind.Volume key s = refl
without_closed kind.Instance key s = refl
without_closed kind.Snapshot key s = refl
without_closed kind.Operation key s = refl

changed_closed : (c : RowChange) (s : State) → (changed s c).closed ≡ s.closed
changed_closed (change.Put r) s = with_closed r s
changed_closed (change.Remove of key) s = without_closed of key s

applied_closed : (cs : List RowChange) (s : State) → (applied s cs).closed ≡ s.closed
applied_closed [] s = refl
applied_closed (c ∷ cs) s = applied_closed cs (changed s c) ∙ changed_closed c s

applied_open : (cs : List RowChange) (s : State) → StaysOpen s (applied s cs)
applied_open cs s = (applied-operations cs s, applied_closed cs s)

rows_leave : (s : State) (cs : List RowChange) → Leaves s tells (applied s cs)
rows_leave s cs bell.Events quiet = rings_already quiet
rows_leave s cs bell.Ends quiet = live_same s (applied s cs) (applied-operations cs s)
rows_leave s cs bell.Calls quiet = calls_same s (applied s cs) (applied_open cs s)

-- ---- operations that go on

-- an operation has other work
work_live : (s : State) (number : ℕ) (task : Task) → KeepsLive s (with_task number task s)
work_live s number task = λ n live. found-changed (has_number n) (has_number number)
    (λ (o : Operation Task). record o { work = task }) s.operations.live (λ o. refl) ∙ live

work_calls : (s : State) (number : ℕ) (task : Task) → KeepsCalls s (with_task number task s)
work_calls s number task = record {
  pending = λ none. none_changed waits (has_number number) (λ (o : Operation Task). record o { work = task })
      s.operations.live (λ o is. is) none;
  closed = refl;
}

work_leaves : (s : State) (rings : Rings) (number : ℕ) (task : Task) → Leaves s rings (with_task number task s)
work_leaves s rings number task bell.Events quiet = record { notices = refl; next = refl }
work_leaves s rings number task bell.Ends quiet = work_live s number task
work_leaves s rings number task bell.Calls quiet = work_calls s number task

-- it has another status, in which it waits for no first call
moved_live : (s : State) (number : ℕ) (now : Status) (moment : ℕ) → KeepsLive s (moved number now moment s)
moved_live s number now moment = λ n live. found-changed (has_number n) (has_number number)
    (λ (o : Operation Task). record o { status = now; updated = moment }) s.operations.live (λ o. refl) ∙ live

moved_calls : (s : State) (number : ℕ) (now : Status) (moment : ℕ) → is_pending now ≡ false
    → KeepsCalls s (moved number now moment s)
moved_calls s number now moment goes = record {
  pending = λ none. none_changed waits (has_number number)
      (λ (o : Operation Task). record o { status = now; updated = moment }) s.operations.live (λ o is. goes) none;
  closed = refl;
}

moved_leaves : (s : State) (number : ℕ) (now : Status) (moment : ℕ) → is_pending now ≡ false
    → Leaves s ends (moved number now moment s)
moved_leaves s number now moment goes bell.Events quiet = rings_already quiet
moved_leaves s number now moment goes bell.Ends quiet = rings_already quiet
moved_leaves s number now moment goes bell.Calls quiet = moved_calls s number now moment goes

-- its first call was handed out
handed_leaves : (s : State) (number : ℕ) (task : Task) (moment : ℕ)
    → Leaves s tells (with_task number task (moved number status.Running moment s))
handed_leaves s number task moment bell.Events quiet = rings_already quiet
handed_leaves s number task moment bell.Ends quiet = λ n live.
    work_live (moved number status.Running moment s) number task n (moved_live s number status.Running moment n live)
handed_leaves s number task moment bell.Calls quiet = record {
  pending = λ none. (work_calls (moved number status.Running moment s) number task).pending
      ((moved_calls s number status.Running moment refl).pending none);
  closed = refl;
}

-- ---- operations that begin

entered_leaves : (s : State) (task : Task) (moment : ℕ) → Leaves s begins (entered s task moment)
unfolding entered
entered_leaves s task moment bell.Events quiet = rings_already quiet
entered_leaves s task moment bell.Ends quiet =
    λ number live. found_before (has_number number) s.operations.live _ live
entered_leaves s task moment bell.Calls quiet = rings_already quiet

entered_kept : (s : State) (task : Task) (moment : ℕ)
    → is_some (kept_at (entered s task moment).operations s.operations.next) ≡ true
unfolding entered
entered_kept s task moment =
    found_within (has_number s.operations.next) s.operations.live _ s.operations.ended same where
      same : (s.operations.next == s.operations.next) ≡ true
      same = grind (arith, nat_tests)

begun_leaves : (s : State) (task : Task) (moment : ℕ)
    → Leaves s (rings_of purpose.Command (begun s task moment).answer) (begun s task moment).state
begun_leaves s task moment = by (kept_at t.operations s.operations.next) (entered_kept s task moment) where
  t : State
  t = entered s task moment

  by : (found : Option (Operation Task)) → is_some found ≡ true
      → Leaves s (rings_of_reply (option_map_or (λ o. reply.Started (view_of o)) found reply.Empty))
      (telling (operation_notice t s.operations.next moment) t)
  by None is = cc
  by (Some o) is = then_told s t begins (operation_notice t s.operations.next moment) refl
      (entered_leaves s task moment)

-- ---- operations that end

cancelled_leaves : (s : State) (number moment : ℕ) → Leaves s ends (cancelled s number moment)
unfolding cancelled
cancelled_leaves s number moment bell.Events quiet = rings_already quiet
cancelled_leaves s number moment bell.Ends quiet = rings_already quiet
cancelled_leaves s number moment bell.Calls quiet = record {
  pending = λ none. none_dropped waits (has_number number) s.operations.live none;
  closed = refl;
}

failed_leaves : (s : State) (o : Operation Task) (why : OpFault) (count moment : ℕ)
    → Leaves s ends (failed s o why count moment)
unfolding failed
failed_leaves s o why count moment bell.Events quiet = rings_already quiet
failed_leaves s o why count moment bell.Ends quiet = rings_already quiet
failed_leaves s o why count moment bell.Calls quiet = record {
  pending = λ none. subst (λ (k : OperationTable Task). find waits (dropped (has_number o.number) k.live) ≡ None)
      (sym same.0) (none_dropped waits (has_number o.number) s.operations.live none);
  closed = same.1;
} where
  same : StaysOpen s (after_failure o.work count s)
  same = failure-keeps (StaysOpen s) (λ t powers same. same) o.work count s (refl, refl)

succeeded_leaves : (s : State) (o : Operation Task) (moment : ℕ) → Leaves s ends (succeeded s o moment)
unfolding succeeded
succeeded_leaves s o moment bell.Events quiet = rings_already quiet
succeeded_leaves s o moment bell.Ends quiet = rings_already quiet
succeeded_leaves s o moment bell.Calls quiet = record {
  pending = λ none. subst (λ (k : OperationTable Task). find waits (dropped (has_number o.number) k.live) ≡ None)
      (sym (rows.0 ∙ powers.0)) (none_dropped waits (has_number o.number) s.operations.live none);
  closed = rows.1 ∙ powers.1;
} where
  powered : State
  powered = with_power_after o.work (power_after s o.work) s

  powers : StaysOpen s powered
  powers = power-keeps (StaysOpen s) (λ t powers same. same) o.work (power_after s o.work) s (refl, refl)

  rows : StaysOpen powered (applied powered (success_changes s o.work))
  rows = applied_open (success_changes s o.work) powered

-- ---- cancels

-- no cancel makes an operation wait for its first call
abbrev GoesOn : Result Status CancelFault → Type 0
GoesOn (Ok now) = is_pending now ≡ false
GoesOn (Err why) = Unit {0}

cancel_goes : (found : Option (Operation Task)) → GoesOn (cancel_answer found)
cancel_goes None = tt
cancel_goes (Some o) = by o.may_cancel o.status where
  by : (may : Bool) (now : Status) → GoesOn (cancel_of may now)
  by true status.Pending = refl
  by true status.Running = refl
  by true status.Cancelling = tt
  by true status.Success = tt
  by true status.Failure = tt
  by true status.Cancelled = tt
  by false status.Pending = tt
  by false status.Running = tt
  by false status.Cancelling = tt
  by false status.Success = tt
  by false status.Failure = tt
  by false status.Cancelled = tt

cancel_leaves : (s : State) (number moment : ℕ) (found : Result Status CancelFault) → GoesOn found
    → Leaves s ends (after_cancel s number moment found)
cancel_leaves s number moment (Err why) goes = unchanged s ends
cancel_leaves s number moment (Ok status.Cancelled) goes =
    noted s (cancelled s number moment) ends number moment refl (cancelled_leaves s number moment)
cancel_leaves s number moment (Ok status.Pending) goes =
    noted s (moved number status.Pending moment s) ends number moment refl
    (moved_leaves s number status.Pending moment goes)
cancel_leaves s number moment (Ok status.Running) goes =
    noted s (moved number status.Running moment s) ends number moment refl
    (moved_leaves s number status.Running moment goes)
cancel_leaves s number moment (Ok status.Cancelling) goes =
    noted s (moved number status.Cancelling moment s) ends number moment refl
    (moved_leaves s number status.Cancelling moment goes)
cancel_leaves s number moment (Ok status.Success) goes =
    noted s (moved number status.Success moment s) ends number moment refl
    (moved_leaves s number status.Success moment goes)
cancel_leaves s number moment (Ok status.Failure) goes =
    noted s (moved number status.Failure moment s) ends number moment refl
    (moved_leaves s number status.Failure moment goes)

-- ---- commands

unavailable_leaves : (s : State) (rings : Answer → Rings) (p : Plan) → LeavesBy s rings (unavailable s p)
unavailable_leaves s rings nothing = tt
unavailable_leaves s rings (changes cs) = unchanged s _
unavailable_leaves s rings (starts task) = tt

cancel_asked : (s : State) (project : List ℕ) (expects : Option (List ℕ)) (op moment : ℕ) (outcome : Outcome) (refusal : Option Refusal)
    → LeavesBy s (rings_of purpose.Cancel)
    (after_command s (record { project = project; what = what.Cancel op; expects = expects }) moment outcome refusal)
unfolding accepted plan_of
cancel_asked s project expects op moment well (Some refusal) = unchanged s _
cancel_asked s project expects op moment well None =
    cancel_leaves s op moment (cancel_answer (kept_at s.operations op)) (cancel_goes (kept_at s.operations op))
cancel_asked s project expects op moment (keeper_failed rise) (Some refusal) = tt
cancel_asked s project expects op moment (keeper_failed rise) None =
    unavailable_leaves s (rings_of purpose.Cancel) nothing
cancel_asked s project expects op moment no_memory (Some refusal) = unchanged s _
cancel_asked s project expects op moment no_memory None = unchanged s _

plan_leaves : (s : State) (c : Command) (moment : ℕ) (p : Plan) → (cancel_or_read s c moment c.what).state ≡ s
    → LeavesBy s (rings_of purpose.Command) (Some (carried_out s c moment p))
plan_leaves s c moment nothing reads = subst (Leaves s _) (sym reads) (unchanged s _)
plan_leaves s c moment (changes cs) reads =
    then_told s (applied s cs) tells (change_notices s c moment) refl (rows_leave s cs)
plan_leaves s c moment (starts task) reads = begun_leaves s task moment

command_asked : (s : State) (c : Command) (moment : ℕ) (outcome : Outcome) (refusal : Option Refusal)
    → (cancel_or_read s c moment c.what).state ≡ s
    → LeavesBy s (rings_of purpose.Command) (after_command s c moment outcome refusal)
unfolding accepted
command_asked s c moment well (Some refusal) reads = unchanged s _
command_asked s c moment well None reads = plan_leaves s c moment (plan_of s c moment) reads
command_asked s c moment (keeper_failed rise) (Some refusal) reads = tt
command_asked s c moment (keeper_failed rise) None reads =
    unavailable_leaves s (rings_of purpose.Command) (plan_of s c moment)
command_asked s c moment no_memory (Some refusal) reads = unchanged s _
command_asked s c moment no_memory None reads = unchanged s _

asked_leaves : (s : State) (project : List ℕ) (expects : Option (List ℕ)) (w : What) (moment : ℕ) (outcome : Outcome) (refusal : Option Refusal)
    → LeavesBy s (rings_of (purpose_of_command w))
    (after_command s (record { project = project; what = w; expects = expects }) moment outcome refusal)
asked_leaves s project expects (what.Cancel op) moment outcome refusal = cancel_asked s project expects op moment outcome refusal
asked_leaves s project expects what.Root moment outcome refusal = command_asked s _ moment outcome refusal refl
asked_leaves s project expects what.Server moment outcome refusal = command_asked s _ moment outcome refusal refl
asked_leaves s project expects (what.List of recursion) moment outcome refusal =
    command_asked s _ moment outcome refusal refl
asked_leaves s project expects (what.Get of) moment outcome refusal = command_asked s _ moment outcome refusal refl
asked_leaves s project expects (what.State of) moment outcome refusal = command_asked s _ moment outcome refusal refl
asked_leaves s project expects (what.Create of body) moment outcome refusal = command_asked s _ moment outcome refusal refl
asked_leaves s project expects (what.Put of body) moment outcome refusal = command_asked s _ moment outcome refusal refl
asked_leaves s project expects (what.Patch of body) moment outcome refusal = command_asked s _ moment outcome refusal refl
asked_leaves s project expects (what.Move of to) moment outcome refusal = command_asked s _ moment outcome refusal refl
asked_leaves s project expects (what.Delete of) moment outcome refusal = command_asked s _ moment outcome refusal refl
asked_leaves s project expects (what.Act of action) moment outcome refusal = command_asked s _ moment outcome refusal refl
asked_leaves s project expects (what.Restore of snapshot) moment outcome refusal =
    command_asked s _ moment outcome refusal refl
asked_leaves s project expects (what.GetOp op) moment outcome refusal = command_asked s _ moment outcome refusal refl
asked_leaves s project expects (what.Wait op timeout) moment outcome refusal = command_asked s _ moment outcome refusal refl

-- ---- calls

always_leaves : (s : State) (rings : Answer → Rings) (after : After) (outcome : Outcome)
    → Leaves s (rings after.answer) after.state → LeavesBy s rings (always after outcome)
always_leaves s rings after well leaves = leaves
always_leaves s rings after (keeper_failed rise) leaves = tt
always_leaves s rings after no_memory leaves = tt

call_leaves : (s : State) (o : Operation Task) (moment : ℕ) (calls : List HostCall)
    → Leaves s (rings_of purpose.Call (handed_out s o moment calls).answer) (handed_out s o moment calls).state
call_leaves s o moment [] = unchanged s _
call_leaves s o moment (call ∷ rest) =
    noted s (with_task o.number (handing_out o.work rest) (moved o.number status.Running moment s)) tells o.number moment
    refl (handed_leaves s o.number (handing_out o.work rest) moment)

taken_leaves : (s : State) (moment : ℕ) (first : Option (Operation Task))
    → Leaves s (rings_of purpose.Call (taken s moment first).answer) (taken s moment first).state
taken_leaves s moment (Some o) = call_leaves s o moment o.work.calls
taken_leaves s moment None = unchanged s _

-- ---- reports

end_leaves : (s t : State) (number moment : ℕ) → Leaves s ends t
    → Leaves s (rings_of purpose.Report (after_end t number moment).answer) (after_end t number moment).state
end_leaves s t number moment leaves = noted s t ends number moment refl leaves

success_leaves : (s : State) (o : Operation Task) (moment : ℕ)
    → Leaves s (rings_of purpose.Report (success s o moment).answer) (success s o moment).state
success_leaves s o moment = end_leaves s (telling (success_notices o.work moment) (succeeded s o moment)) o.number moment
    (then_told s (succeeded s o moment) ends (success_notices o.work moment) refl (succeeded_leaves s o moment))

failure_leaves : (s : State) (o : Operation Task) (why : OpFault) (count moment : ℕ)
    → Leaves s (rings_of purpose.Report (failure s o why count moment).answer) (failure s o why count moment).state
failure_leaves s o why count moment =
    end_leaves s (failed s o why count moment) o.number moment (failed_leaves s o why count moment)

stray_leaves : (s : State) (number : ℕ) (outcome : Outcome)
    → LeavesBy s (rings_of purpose.Report) (stray s number outcome)
stray_leaves s number well = unchanged s _
stray_leaves s number (keeper_failed rise) = tt
stray_leaves s number no_memory = tt

committed_leaves : (s : State) (o : Operation Task) (moment : ℕ) (outcome : Outcome) (cs : List RowChange)
    → LeavesBy s (rings_of purpose.Report) (committed s o moment outcome cs)
committed_leaves s o moment well cs = success_leaves s o moment
committed_leaves s o moment (keeper_failed rise) [] = tt
committed_leaves s o moment (keeper_failed rise) (c ∷ cs) = failure_leaves s o _ _ moment
committed_leaves s o moment no_memory cs = failure_leaves s o _ _ moment

call_done_leaves : (s : State) (o : Operation Task) (moment : ℕ) (outcome : Outcome) (calls : List HostCall)
    → LeavesBy s (rings_of purpose.Report) (call_done s o moment outcome calls)
call_done_leaves s o moment well (call ∷ rest) = work_leaves s _ o.number _
call_done_leaves s o moment (keeper_failed rise) (call ∷ rest) = tt
call_done_leaves s o moment no_memory (call ∷ rest) = tt
call_done_leaves s o moment well [] = committed_leaves s o moment well (success_changes s o.work)
call_done_leaves s o moment (keeper_failed rise) [] =
    committed_leaves s o moment (keeper_failed rise) (success_changes s o.work)
call_done_leaves s o moment no_memory [] = committed_leaves s o moment no_memory (success_changes s o.work)

call_failed_leaves : (s : State) (o : Operation Task) (moment : ℕ) (outcome : Outcome) (why : OpFault)
    → LeavesBy s (rings_of purpose.Report) (call_failed s o moment outcome why)
call_failed_leaves s o moment well why = failure_leaves s o why _ moment
call_failed_leaves s o moment (keeper_failed rise) why = tt
call_failed_leaves s o moment no_memory why = tt

running_leaves : (s : State) (o : Operation Task) (r : Report) (moment : ℕ) (outcome : Outcome)
    → LeavesBy s (rings_of purpose.Report) (while_running s o r moment outcome)
running_leaves s o report.Done moment outcome = call_done_leaves s o moment outcome o.work.calls
running_leaves s o (report.Failed rise) moment outcome = call_failed_leaves s o moment outcome _
running_leaves s o report.NoMemory moment outcome = call_failed_leaves s o moment outcome _

cancelling_leaves : (s : State) (o : Operation Task) (moment : ℕ) (outcome : Outcome) (undo : Option HostCall)
    → LeavesBy s (rings_of purpose.Report) (while_cancelling s o moment outcome undo)
cancelling_leaves s o moment well (Some call) = work_leaves s _ o.number _
cancelling_leaves s o moment well None =
    end_leaves s (cancelled s o.number moment) o.number moment (cancelled_leaves s o.number moment)
cancelling_leaves s o moment (keeper_failed rise) undo = tt
cancelling_leaves s o moment no_memory undo = tt

reported_leaves : (s : State) (o : Operation Task) (r : Report) (moment : ℕ) (outcome : Outcome) (now : Status)
    → LeavesBy s (rings_of purpose.Report) (reported s o r moment outcome now)
reported_leaves s o r moment outcome status.Running = running_leaves s o r moment outcome
reported_leaves s o r moment outcome status.Cancelling = cancelling_leaves s o moment outcome o.work.undo
reported_leaves s o r moment outcome status.Pending = stray_leaves s o.number outcome
reported_leaves s o r moment outcome status.Success = stray_leaves s o.number outcome
reported_leaves s o r moment outcome status.Failure = stray_leaves s o.number outcome
reported_leaves s o r moment outcome status.Cancelled = stray_leaves s o.number outcome

done_leaves : (s : State) (number : ℕ) (r : Report) (moment : ℕ) (outcome : Outcome) (at : Option (Operation Task))
    → LeavesBy s (rings_of purpose.Report) (done s number r moment outcome at)
done_leaves s number r moment outcome (Some o) = reported_leaves s o r moment outcome o.status
done_leaves s number r moment outcome None = stray_leaves s number outcome

-- ---- steps

closes_leaves : (s : State) → Leaves s closes (record s { closed = true })
closes_leaves s bell.Events quiet = record { notices = refl; next = refl }
closes_leaves s bell.Ends quiet = λ number live. live
closes_leaves s bell.Calls quiet = rings_already quiet

step_leaves : (s : State) (e : Event) (outcome : Outcome) → LeavesBy s (rings_at e) (step s e outcome)
unfolding step
step_leaves s (event.Ask c moment) outcome = asked_leaves s c.project c.expects c.what moment outcome (broken s c moment)
step_leaves s (event.Look number) outcome = always_leaves s (rings_at (event.Look number)) _ outcome (unchanged s _)
step_leaves s (event.Take moment) outcome = always_leaves s (rings_of purpose.Call) (taken s moment (first_pending s))
    outcome (taken_leaves s moment (first_pending s))
step_leaves s (event.Done number r moment) outcome =
    done_leaves s number r moment outcome (live_at s.operations number)
step_leaves s (event.Fetch cursor filter) well = unchanged s _
step_leaves s (event.Fetch cursor filter) (keeper_failed rise) = tt
step_leaves s (event.Fetch cursor filter) no_memory = unchanged s _
step_leaves s event.Close outcome = always_leaves s (rings_at event.Close) _ outcome (closes_leaves s)

pub nothing_missed : NothingIsMissed
nothing_missed s t e outcome a b is quiet = by (step s e outcome) (step_leaves s e outcome) is b quiet where
  by : (after : Option After) → LeavesBy s (rings_at e) after → after ≡ Some (and_then a t) → Leaves s (rings_at e a) t
  by after leaves is = subst (LeavesBy s (rings_at e)) is leaves
