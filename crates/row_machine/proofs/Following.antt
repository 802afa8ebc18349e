-- Each step moves operations, and so does each run; what follows for ended operations and for the ends of a run.
use Rattle.std.proofs.Common.{◌≡◌, ℕ, Bool, true, false, cond, Option, Some, None, List, [], ◌∷◌, refl, sym, ◌∙◌, ap, subst}
use Rattle.std.specs.Option.{option_map_or}
use Rattle.std.specs.Prelude.{Result, Ok, Err}
use Rattle.size_values.specs.declared.kinds.ObjectKind.{ObjectKind}
use Rattle.size_values.specs.declared.kinds.ObjectKind.TheVariants as kind
use Rattle.host_model.specs.declared.call.HostCall.{HostCall}
use Rattle.host_model.specs.declared.report.Report.{Report}
use Rattle.host_model.specs.declared.report.Report.TheVariants as report
use Rattle.operations.specs.declared.operation.Operation.{Operation}
use Rattle.operations.specs.declared.operation.OpFault.{OpFault}
use Rattle.operations.specs.declared.operation.OpFault.TheVariants as fault
use Rattle.operations.specs.declared.status.Status.{Status}
use Rattle.operations.specs.declared.status.Status.TheVariants as status
use Rattle.operations.specs.declared.faults.CancelFault.{CancelFault}
use Rattle.operations.specs.OperationTable.{OperationTable, live_at, kept_at, cancel_answer, ends}
use Rattle.records.specs.declared.commands.Command.{Command}
use Rattle.records.specs.declared.commands.What.{What}
use Rattle.records.specs.declared.commands.What.TheVariants as what
use Rattle.records.specs.declared.notices.Untold.{Untold}
use Rattle.records.specs.declared.notices.Filter.{Filter}
use Rattle.records.specs.declared.refusals.Refusal.{Refusal}
use Rattle.records.specs.declared.replies.Reply.{Reply}
use Rattle.records.specs.declared.replies.Reply.TheVariants as reply
use Rattle.records.specs.declared.rows.Row.{Row}
use Rattle.records.specs.declared.rows.Row.TheVariants as row
use Rattle.row_machine.specs.declared.changes.RowChange.{RowChange}
use Rattle.row_machine.specs.declared.changes.RowChange.TheVariants as change
use Rattle.row_machine.specs.declared.events.Event.{Event}
use Rattle.row_machine.specs.declared.events.Event.TheVariants as event
use Rattle.row_machine.specs.declared.events.Answer.{Answer}
use Rattle.row_machine.specs.declared.events.Answer.TheVariants as answer
use Rattle.row_machine.specs.machine.Task.{Task}
use Rattle.row_machine.specs.machine.State.{State}
use Rattle.row_machine.specs.machine.Changes.{with_row, without_row, applied}
use Rattle.row_machine.specs.machine.Plans.{Plan, nothing, changes, starts, plan_of}
use Rattle.row_machine.specs.machine.Operations.{entered, moved, with_task, succeeded, failed, cancelled, after_failure, with_power_after, power_after, success_changes}
use Rattle.row_machine.specs.shown.Notices.{telling, push_notice, operation_notice, change_notices, success_notices, view_of}
use Rattle.row_machine.specs.machine.Rules.{broken}
use Rattle.row_machine.specs.machine.Accept.{After, accepted, carried_out, begun, with_operation_notice, cancel, after_cancel, cancel_or_read, started}
use Rattle.row_machine.specs.machine.Step.{Outcome, well, keeper_failed, no_memory, step, after_command, unavailable, taken, handed_out, first_pending, done, reported, while_running, while_cancelling, call_done, call_failed, committed, stray, always, fetched}
use Rattle.row_machine.specs.facts.Laws.{RefusedStays}
use Rattle.row_machine.proofs.Moving.{Moves, stays, enters, changes as alters, over, both}

-- ---- changes of rows and notices leave the operations

row-operations : (r : Row) (s : State) → (with_row r s).operations ≡ s.operations
row-operations (row.Project r) s = refl
row-operations (row.Profile r) s = refl
row-operations (row.Network r) s = refl
row-operations (row.Pool r) s = refl
row-operations (row.Volume r) s = refl
row-operations (row.Instance r) s = refl
row-operations (row.Snapshot r) s = refl

removed-operations : (of : ObjectKind) (key : List ℕ) (s : State) → (without_row of key s).operations ≡ s.operations
removed-operations kind.Project key s = refl
removed-operations kind.Profile key s = refl
removed-operations kind.Network key s = refl
removed-operations kind.Pool key s = refl
removed-operations kind.Volume key s = refl
removed-operations kind.Instance key s = refl
removed-operations kind.Snapshot key s = refl
removed-operations kind.Operation key s = refl

applied-operations : (cs : List RowChange) (s : State) → (applied s cs).operations ≡ s.operations
applied-operations [] s = refl
applied-operations (change.Put r ∷ cs) s = applied-operations cs (with_row r s) ∙ row-operations r s
applied-operations (change.Remove of key ∷ cs) s = applied-operations cs (without_row of key s) ∙ removed-operations of key s

-- of two states with the same operations, either
either-operations : (b : Bool) (s t : State) (k : OperationTable Task) → s.operations ≡ k → t.operations ≡ k → (cond b s t).operations ≡ k
either-operations true s t k left right = left
either-operations false s t k left right = right

pushed-operations : (n : Untold) (s : State) → (push_notice n s).operations ≡ s.operations
pushed-operations n s = either-operations _ s _ s.operations refl refl

telling-operations : (ns : List Untold) (s : State) → (telling ns s).operations ≡ s.operations
telling-operations [] s = refl
telling-operations (n ∷ ns) s = telling-operations ns (push_notice n s) ∙ pushed-operations n s

told-operations : (s : State) (number moment : ℕ) → (with_operation_notice s number moment).operations ≡ s.operations
told-operations s number moment = telling-operations (operation_notice s number moment) s

-- ---- moves

-- where operations are the same, or those of a state that moved
to-same : {k l m : OperationTable Task} → m ≡ l → Moves k l → Moves k m
to-same {k} same h = subst (λ x. Moves k x) (sym same) h

moves-told : {k : OperationTable Task} (s : State) (number moment : ℕ) → Moves k s.operations → Moves k (with_operation_notice s number moment).operations
moves-told s number moment h = to-same (told-operations s number moment) h

moves-moved : (s : State) (n : ℕ) (now : Status) (moment : ℕ) → Moves s.operations (moved n now moment s).operations
moves-moved s n now moment = alters n (λ o. record o { status = now; updated = moment }) (λ o. refl)

moves-task : (s : State) (n : ℕ) (task : Task) → Moves s.operations (with_task n task s).operations
moves-task s n task = alters n (λ o. record o { work = task }) (λ o. refl)

moves-cancelled : (s : State) (n moment : ℕ) → Moves s.operations (cancelled s n moment).operations
unfolding cancelled
moves-cancelled s n moment = over n status.Cancelled fault.None moment

failure-operations : (task : Task) (done : ℕ) (s : State) → (after_failure task done s).operations ≡ s.operations
failure-operations task done s = either-operations _ _ s s.operations refl refl

moves-failed : (s : State) (o : Operation Task) (why : OpFault) (done moment : ℕ) → Moves s.operations (failed s o why done moment).operations
unfolding failed
moves-failed s o why done moment = subst (λ k. Moves s.operations (ends_of k)) (sym (failure-operations o.work done s)) (over o.number status.Failure why moment) where
  ends_of : OperationTable Task → OperationTable Task
  ends_of k = ends o.number status.Failure why moment k

power-operations : (task : Task) (power : Option _) (s : State) → (with_power_after task power s).operations ≡ s.operations
power-operations task None s = refl
power-operations task (Some power) s = refl

moves-succeeded : (s : State) (o : Operation Task) (moment : ℕ) → Moves s.operations (succeeded s o moment).operations
unfolding succeeded
moves-succeeded s o moment = subst (λ k. Moves s.operations (ends_of k))
    (sym (applied-operations (success_changes s o.work) (with_power_after o.work (power_after s o.work) s) ∙ power-operations o.work (power_after s o.work) s))
    (over o.number status.Success fault.None moment) where
      ends_of : OperationTable Task → OperationTable Task
      ends_of k = ends o.number status.Success fault.None moment k

-- ---- steps

abbrev Follows : State → Option After → Type 0
Follows s result = (a : After) → result ≡ Some a → Moves s.operations a.state.operations

-- a result that is there
follows-at : (s : State) (a : After) → Moves s.operations a.state.operations → Follows s (Some a)
follows-at s a h b is = subst (λ x. Moves s.operations x.state.operations) (some-is is) h where
  some-is : {x y : After} → Some x ≡ Some y → x ≡ y
  some-is same = cc

follows-none : (s : State) → Follows s None
follows-none s a is = cc

moves-entered : (s : State) (task : Task) (moment : ℕ) → Moves s.operations (entered s task moment).operations
unfolding entered
moves-entered s task moment = enters _ task moment

follows-begun : (s : State) (task : Task) (moment : ℕ) → Moves s.operations (begun s task moment).state.operations
follows-begun s task moment = moves-told (entered s task moment) s.operations.next moment (moves-entered s task moment)

follows-after_cancel : (s : State) (n moment : ℕ) (r : Result Status CancelFault) → Moves s.operations (after_cancel s n moment r).operations
follows-after_cancel s n moment (Err why) = stays
follows-after_cancel s n moment (Ok status.Cancelled) = moves-told (cancelled s n moment) n moment (moves-cancelled s n moment)
follows-after_cancel s n moment (Ok status.Pending) = moves-told (moved n status.Pending moment s) n moment (moves-moved s n status.Pending moment)
follows-after_cancel s n moment (Ok status.Running) = moves-told (moved n status.Running moment s) n moment (moves-moved s n status.Running moment)
follows-after_cancel s n moment (Ok status.Cancelling) = moves-told (moved n status.Cancelling moment s) n moment (moves-moved s n status.Cancelling moment)
follows-after_cancel s n moment (Ok status.Success) = moves-told (moved n status.Success moment s) n moment (moves-moved s n status.Success moment)
follows-after_cancel s n moment (Ok status.Failure) = moves-told (moved n status.Failure moment s) n moment (moves-moved s n status.Failure moment)

follows-read : (s : State) (c : Command) (moment : ℕ) (w : What) → Moves s.operations (cancel_or_read s c moment w).state.operations
follows-read s c moment (what.Cancel op) = follows-after_cancel s op moment (cancel_answer (kept_at s.operations op))
follows-read s c moment what.Root = stays
follows-read s c moment what.Server = stays
follows-read s c moment (what.List of recursion) = stays
follows-read s c moment (what.Get of) = stays
follows-read s c moment (what.State of) = stays
follows-read s c moment (what.Create of body) = stays
follows-read s c moment (what.Put of body) = stays
follows-read s c moment (what.Patch of body) = stays
follows-read s c moment (what.Move of to) = stays
follows-read s c moment (what.Delete of) = stays
follows-read s c moment (what.Act of action) = stays
follows-read s c moment (what.Restore of snapshot) = stays
follows-read s c moment (what.GetOp op) = stays
follows-read s c moment (what.Wait op timeout) = stays

follows-plan : (s : State) (c : Command) (moment : ℕ) (p : Plan) → Moves s.operations (carried_out s c moment p).state.operations
follows-plan s c moment nothing = follows-read s c moment c.what
follows-plan s c moment (changes cs) = to-same (telling-operations (change_notices s c moment) (applied s cs) ∙ applied-operations cs s) stays
follows-plan s c moment (starts task) = follows-begun s task moment

follows-accepted : (s : State) (c : Command) (moment : ℕ) → Moves s.operations (accepted s c moment).state.operations
unfolding accepted
follows-accepted s c moment = follows-plan s c moment (plan_of s c moment)

follows-unavailable : (s : State) (p : Plan) → Follows s (unavailable s p)
follows-unavailable s nothing = follows-none s
follows-unavailable s (changes cs) = follows-at s _ stays
follows-unavailable s (starts task) = follows-none s

follows-asked : (s : State) (c : Command) (moment : ℕ) (outcome : Outcome) (r : Option Refusal) → Follows s (after_command s c moment outcome r)
follows-asked s c moment well (Some refusal) = follows-at s _ stays
follows-asked s c moment well None = follows-at s _ (follows-accepted s c moment)
follows-asked s c moment (keeper_failed rise) (Some refusal) = follows-none s
follows-asked s c moment (keeper_failed rise) None = follows-unavailable s (plan_of s c moment)
follows-asked s c moment no_memory None = follows-at s _ stays
follows-asked s c moment no_memory (Some refusal) = follows-at s _ stays

follows-handed : (s : State) (o : Operation Task) (moment : ℕ) (calls : List HostCall) → Moves s.operations (handed_out s o moment calls).state.operations
follows-handed s o moment [] = stays
follows-handed s o moment (call ∷ rest) =
    moves-told _ o.number moment (both (moves-moved s o.number status.Running moment) (moves-task (moved o.number status.Running moment s) o.number _))

follows-taken : (s : State) (moment : ℕ) (o : Option (Operation Task)) → Moves s.operations (taken s moment o).state.operations
follows-taken s moment (Some o) = follows-handed s o moment o.work.calls
follows-taken s moment None = stays

follows-failure : (s : State) (o : Operation Task) (why : OpFault) (n moment : ℕ) → Moves s.operations (with_operation_notice (failed s o why n moment) o.number moment).operations
follows-failure s o why n moment = moves-told (failed s o why n moment) o.number moment (moves-failed s o why n moment)

follows-success : (s : State) (o : Operation Task) (moment : ℕ)
    → Moves s.operations (with_operation_notice (telling (success_notices o.work moment) (succeeded s o moment)) o.number moment).operations
follows-success s o moment = moves-told _ o.number moment
    (to-same (telling-operations (success_notices o.work moment) (succeeded s o moment)) (moves-succeeded s o moment))

follows-committed : (s : State) (o : Operation Task) (moment : ℕ) (outcome : Outcome) (cs : List RowChange) → Follows s (committed s o moment outcome cs)
follows-committed s o moment well [] = follows-at s _ (follows-success s o moment)
follows-committed s o moment well (c ∷ cs) = follows-at s _ (follows-success s o moment)
follows-committed s o moment (keeper_failed rise) [] = follows-none s
follows-committed s o moment (keeper_failed rise) (c ∷ cs) = follows-at s _ (follows-failure s o _ _ moment)
follows-committed s o moment no_memory [] = follows-at s _ (follows-failure s o _ _ moment)
follows-committed s o moment no_memory (c ∷ cs) = follows-at s _ (follows-failure s o _ _ moment)

follows-call_done : (s : State) (o : Operation Task) (moment : ℕ) (outcome : Outcome) (calls : List HostCall) → Follows s (call_done s o moment outcome calls)
follows-call_done s o moment well (call ∷ rest) = follows-at s _ (moves-task s o.number _)
follows-call_done s o moment (keeper_failed rise) (call ∷ rest) = follows-none s
follows-call_done s o moment no_memory (call ∷ rest) = follows-none s
follows-call_done s o moment well [] = follows-committed s o moment well (success_changes s o.work)
follows-call_done s o moment (keeper_failed rise) [] = follows-committed s o moment (keeper_failed rise) (success_changes s o.work)
follows-call_done s o moment no_memory [] = follows-committed s o moment no_memory (success_changes s o.work)

follows-call_failed : (s : State) (o : Operation Task) (moment : ℕ) (outcome : Outcome) (why : OpFault) → Follows s (call_failed s o moment outcome why)
follows-call_failed s o moment well why = follows-at s _ (follows-failure s o why _ moment)
follows-call_failed s o moment (keeper_failed rise) why = follows-none s
follows-call_failed s o moment no_memory why = follows-none s

follows-running : (s : State) (o : Operation Task) (r : Report) (moment : ℕ) (outcome : Outcome) → Follows s (while_running s o r moment outcome)
follows-running s o report.Done moment outcome = follows-call_done s o moment outcome o.work.calls
follows-running s o (report.Failed rise) moment outcome = follows-call_failed s o moment outcome _
follows-running s o report.NoMemory moment outcome = follows-call_failed s o moment outcome _

follows-cancelling : (s : State) (o : Operation Task) (moment : ℕ) (outcome : Outcome) (undo : Option HostCall) → Follows s (while_cancelling s o moment outcome undo)
follows-cancelling s o moment well (Some call) = follows-at s _ (moves-task s o.number _)
follows-cancelling s o moment well None = follows-at s _ (moves-told (cancelled s o.number moment) o.number moment (moves-cancelled s o.number moment))
follows-cancelling s o moment (keeper_failed rise) None = follows-none s
follows-cancelling s o moment (keeper_failed rise) (Some call) = follows-none s
follows-cancelling s o moment no_memory None = follows-none s
follows-cancelling s o moment no_memory (Some call) = follows-none s

follows-stray : (s : State) (n : ℕ) (outcome : Outcome) → Follows s (stray s n outcome)
follows-stray s n well = follows-at s _ stays
follows-stray s n (keeper_failed rise) = follows-none s
follows-stray s n no_memory = follows-none s

follows-reported : (s : State) (o : Operation Task) (r : Report) (moment : ℕ) (outcome : Outcome) (st : Status) → Follows s (reported s o r moment outcome st)
follows-reported s o r moment outcome status.Running = follows-running s o r moment outcome
follows-reported s o r moment outcome status.Cancelling = follows-cancelling s o moment outcome o.work.undo
follows-reported s o r moment outcome status.Pending = follows-stray s o.number outcome
follows-reported s o r moment outcome status.Success = follows-stray s o.number outcome
follows-reported s o r moment outcome status.Failure = follows-stray s o.number outcome
follows-reported s o r moment outcome status.Cancelled = follows-stray s o.number outcome

follows-done : (s : State) (n : ℕ) (r : Report) (moment : ℕ) (outcome : Outcome) (o : Option (Operation Task)) → Follows s (done s n r moment outcome o)
follows-done s n r moment outcome (Some o) = follows-reported s o r moment outcome o.status
follows-done s n r moment outcome None = follows-stray s n outcome

follows-always : (s : State) (a : After) (outcome : Outcome) → Moves s.operations a.state.operations → Follows s (always a outcome)
follows-always s a well h = follows-at s a h
follows-always s a (keeper_failed rise) h = follows-none s
follows-always s a no_memory h = follows-none s

follows-fetched : (s : State) (cursor : ℕ) (filter : Filter) (outcome : Outcome) → Follows s (fetched s cursor filter outcome)
follows-fetched s cursor filter well = follows-at s _ stays
follows-fetched s cursor filter (keeper_failed rise) = follows-none s
follows-fetched s cursor filter no_memory = follows-at s _ stays

-- each step moves operations
pub step-moves : (s : State) (e : Event) (outcome : Outcome) → Follows s (step s e outcome)
unfolding step
step-moves s (event.Ask c moment) outcome = follows-asked s c moment outcome (broken s c moment)
step-moves s (event.Look n) outcome = follows-always s _ outcome stays
step-moves s (event.Take moment) outcome = follows-always s _ outcome (follows-taken s moment (first_pending s))
step-moves s (event.Done n r moment) outcome = follows-done s n r moment outcome (live_at s.operations n)
step-moves s (event.Fetch cursor filter) outcome = follows-fetched s cursor filter outcome
step-moves s event.Close outcome = follows-always s _ outcome stays

-- ---- a refused request

-- nothing that an accepted command answers is a refusal: what is refused leaves the state
abbrev Refuses : State → Option After → Type 0
Refuses s result = (a : After) (r : Refusal) → result ≡ Some a → a.answer ≡ answer.Reply (reply.Refused r) → a.state ≡ s

refuses-none : (s : State) → Refuses s None
refuses-none s a r is told = cc

refuses-same : (s : State) (b : Answer) → Refuses s (Some (record { answer = b; state = s }))
refuses-same s b a r is told = ap (λ (x : After). x.state) (sym (some-is is)) where
  some-is : {x y : After} → Some x ≡ Some y → x ≡ y
  some-is same = cc

refuses-at : (s t : State) (b : Answer) → ((r : Refusal) → b ≡ answer.Reply (reply.Refused r) → ⊥) → Refuses s (Some (record { answer = b; state = t }))
refuses-at s t b never a r is told = absurd (never r (ap (λ (x : After). x.answer) (some-is is) ∙ told)) where
  some-is : {x y : After} → Some x ≡ Some y → x ≡ y
  some-is same = cc

-- what is said to a read leaves the state, and to what changes it nothing is said that refuses it

replied : {x y : Reply} → answer.Reply x ≡ answer.Reply y → x ≡ y
replied same = cc

refuses-plan : (s : State) (c : Command) (moment : ℕ) (p : Plan) → Refuses s (Some (carried_out s c moment p))
refuses-plan s c moment nothing = by c.what where
  cancelled_never : (op : ℕ) → Refuses s (Some (cancel s op moment))
  cancelled_never op = refuses-at s _ (answer.Reply reply.Empty) (λ r is. no_empty r (replied is)) where
    no_empty : (r : Refusal) → reply.Empty ≡ reply.Refused r → ⊥
    no_empty r is = cc

  by : (w : What) → Refuses s (Some (cancel_or_read s c moment w))
  by (what.Cancel op) = cancelled_never op
  by what.Root = refuses-same s _
  by what.Server = refuses-same s _
  by (what.List of recursion) = refuses-same s _
  by (what.Get of) = refuses-same s _
  by (what.State of) = refuses-same s _
  by (what.Create of body) = refuses-same s _
  by (what.Put of body) = refuses-same s _
  by (what.Patch of body) = refuses-same s _
  by (what.Move of to) = refuses-same s _
  by (what.Delete of) = refuses-same s _
  by (what.Act of action) = refuses-same s _
  by (what.Restore of snapshot) = refuses-same s _
  by (what.GetOp op) = refuses-same s _
  by (what.Wait op timeout) = refuses-same s _
refuses-plan s c moment (changes cs) = refuses-at s _ (answer.Reply reply.Empty) (λ r is. no_empty r (replied is)) where
  no_empty : (r : Refusal) → reply.Empty ≡ reply.Refused r → ⊥
  no_empty r is = cc
refuses-plan s c moment (starts task) = refuses-at s _ (answer.Reply (started (entered s task moment) s.operations.next)) (λ r is. never (kept_at (entered s task moment).operations s.operations.next) r (replied is)) where
  never : (o : Option (Operation Task)) (r : Refusal) → option_map_or (λ x. reply.Started (view_of x)) o reply.Empty ≡ reply.Refused r → ⊥
  never None r is = cc
  never (Some o) r is = cc

refuses-accepted : (s : State) (c : Command) (moment : ℕ) → Refuses s (Some (accepted s c moment))
unfolding accepted
refuses-accepted s c moment = refuses-plan s c moment (plan_of s c moment)

refuses-unavailable : (s : State) (p : Plan) → Refuses s (unavailable s p)
refuses-unavailable s nothing = refuses-none s
refuses-unavailable s (changes cs) = refuses-same s _
refuses-unavailable s (starts task) = refuses-none s

refuses-asked : (s : State) (c : Command) (moment : ℕ) (outcome : Outcome) (r : Option Refusal) → Refuses s (after_command s c moment outcome r)
refuses-asked s c moment well (Some refusal) = refuses-same s _
refuses-asked s c moment well None = refuses-accepted s c moment
refuses-asked s c moment (keeper_failed rise) (Some refusal) = refuses-none s
refuses-asked s c moment (keeper_failed rise) None = refuses-unavailable s (plan_of s c moment)
refuses-asked s c moment no_memory None = refuses-same s _
refuses-asked s c moment no_memory (Some refusal) = refuses-same s _

pub refused-stays : RefusedStays
unfolding step
refused-stays s c moment outcome after refusal is told = refuses-asked s c moment outcome (broken s c moment) after refusal is told
