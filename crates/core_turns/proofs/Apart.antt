-- What a step makes of states that differ by their notices alone, part by part.
use Rattle.std.proofs.Common.{◌≡◌, ℕ, suc, ◌+◌, ◌≤◌, Bool, true, false, cond, ◌&&◌, nat_lt, List, [], ◌∷◌, ◌++◌, map, length, Option, Some, None, refl, ap, sym, ◌∙◌, arith}
use Rattle.std.specs.Prelude.{Result, Ok, Err}
use Rattle.std.specs.Option.{is_some, option_map, option_to_list}
use Rattle.std.proofs.lemmas.List.{length-append}
use Rattle.size_values.specs.declared.kinds.Action.TheVariants as action
use Rattle.size_values.specs.declared.kinds.Deed.{Deed}
use Rattle.size_values.specs.declared.kinds.Deed.TheVariants as deed
use Rattle.size_values.specs.declared.kinds.Power.{Power}
use Rattle.size_values.specs.declared.kinds.Power.TheVariants.{Error}
use Rattle.host_model.specs.declared.call.HostCall.{HostCall}
use Rattle.host_model.specs.declared.report.Report.{Report}
use Rattle.host_model.specs.declared.report.Report.TheVariants as report
use Rattle.operations.specs.declared.faults.CancelFault.{CancelFault}
use Rattle.operations.specs.declared.operation.OpFault.{OpFault}
use Rattle.operations.specs.declared.operation.OpFault.TheVariants as op_fault
use Rattle.operations.specs.declared.operation.Operation.{Operation}
use Rattle.operations.specs.declared.status.Status.{Status}
use Rattle.operations.specs.declared.status.Status.TheVariants as status
use Rattle.operations.specs.OperationTable.{OperationTable, cancel_answer, kept_at, live_at}
use Rattle.records.specs.declared.commands.Command.{Command}
use Rattle.records.specs.declared.commands.What.{What}
use Rattle.records.specs.declared.commands.What.TheVariants as what
use Rattle.records.specs.declared.notices.EventBody.TheVariants as event_body
use Rattle.records.specs.declared.notices.Untold.{Untold}
use Rattle.records.specs.declared.refusals.Refusal.{Refusal}
use Rattle.records.specs.declared.replies.Reply.TheVariants as reply
use Rattle.row_machine.specs.declared.changes.RowChange.{RowChange}
use Rattle.row_machine.specs.declared.events.Answer.{Answer}
use Rattle.row_machine.specs.declared.events.Answer.TheVariants as answer
use Rattle.row_machine.specs.declared.events.Event.{Event}
use Rattle.row_machine.specs.declared.events.Event.TheVariants as event
use Rattle.row_machine.specs.machine.Accept.{After, accepted, after_cancel, and_then, begun, cancel_or_read, carried_out, started, with_operation_notice, wait_or_read}
use Rattle.row_machine.specs.machine.Changes.{applied}
use Rattle.row_machine.specs.machine.Claims.{amounts_of_instance, part_of_instance, part_of_share, share_of}
use Rattle.row_machine.specs.machine.Deeds.{breaks_instance}
use Rattle.row_machine.specs.machine.Plans.{Plan, nothing, changes, starts, plan_of}
use Rattle.row_machine.specs.machine.Rules.{broken}
use Rattle.row_machine.specs.machine.State.{State}
use Rattle.row_machine.specs.machine.Step.{Outcome, well, keeper_failed, no_memory, step, after_command, unavailable, taken, handed_out, first_pending, done, reported, success, failure, while_running, while_cancelling, call_done, call_failed, committed, stray, always}
use Rattle.row_machine.specs.machine.Task.{Task}
use Rattle.row_machine.specs.machine.Usage.{loads, usage_of, networks_of}
use Rattle.row_machine.specs.machine.Operations.{after_failure, cancelled, converted, ended, entered, failed, handing_out, moved, one_more_done, power_after, returned, succeeded, success_changes, undone, with_power, with_power_after, with_task}
use Rattle.row_machine.specs.shown.Notices.{change_notices, changed_life, deed_lives, deleted_life, life_notice, made_life, moved_life, object_told, operation_notice, push_notice, success_notices, telling, view_of}
use Rattle.row_machine.specs.shown.Views.{read, usage_view, used_by}
use Rattle.machine_laws.proofs.BooksSteps.{telling-keeps}
use Rattle.machine_laws.proofs.Commands.{command_of}
use Rattle.event_hub.specs.Recent.{Recent, with_recent}
use Rattle.core_turns.specs.Asides.{IsNoFetch}
use Rattle.core_turns.proofs.Aside.{applied-aside, broken-aside, plan-aside}

-- The state after a part of a step, of each state that differs by its notices alone: one that differs so too, with the same
-- notices told.
pub record Leaves (f : Recent → After) : Type 0 where
  pub answer : Answer
  pub state : State
  pub untold : List Untold
  pub few : length untold ≤ 8
  pub is : (r : Recent) → f r ≡ and_then answer (telling untold (with_recent r state))

-- or none, where the outcome is not possible
pub data Apart (f : Recent → Option After) : Type 0 where
  never : ((r : Recent) → f r ≡ None) → Apart f
  leaves : (g : Recent → After) → Leaves g → ((r : Recent) → f r ≡ Some (g r)) → Apart f

some : {g : Recent → After} → Leaves g → Apart (λ r. Some (g r))
some {g} l = leaves g l (λ r. refl)

as-leaves : {f g : Recent → After} → ((r : Recent) → f r ≡ g r) → Leaves g → Leaves f
as-leaves same l = record { answer = l.answer; state = l.state; untold = l.untold; few = l.few; is = λ r. same r ∙ l.is r }

as-apart : {f g : Recent → Option After} → ((r : Recent) → f r ≡ g r) → Apart g → Apart f
as-apart same (never none) = never (λ r. same r ∙ none r)
as-apart same (leaves g l is) = leaves g l (λ r. same r ∙ is r)

-- ---- how much is told

-- nothing
quiet : (a : Answer) (s : State) → Leaves (λ r. and_then a (with_recent r s))
quiet a s = record { answer = a; state = s; untold = []; few = omega arith; is = λ r. refl }

one-few : {X : Type 0} (o : Option X) → length (option_to_list o) ≤ 1
one-few None = omega arith
one-few (Some x) = omega arith

-- an operation
tells : (a : Answer) (f : Recent → State) (t : State) (number moment : ℕ) → ((r : Recent) → f r ≡ with_recent r t) → Leaves (λ r. and_then a (with_operation_notice (f r) number moment))
tells a f t number moment same = record {
  answer = a;
  state = t;
  untold = operation_notice t number moment;
  few = omega (arith, one-few {X = Untold} (option_map (λ (o : Operation Task). record { moment = moment; project = o.work.project; body = event_body.Op (view_of o) }) (kept_at t.operations number)));
  is = λ r. ap (λ x. and_then a (with_operation_notice x number moment)) (same r);
}

-- a change at once
change-few : (s : State) (project : List ℕ) (expects : Option (List ℕ)) (w : What) (moment : ℕ) → length (change_notices s (command_of project expects w) moment) ≤ 1
change-few s project expects (what.Create of body) moment = one-few (option_map _ (made_life of.kind))
change-few s project expects (what.Put of body) moment = one-few (option_map _ (changed_life of.kind))
change-few s project expects (what.Patch of body) moment = one-few (option_map _ (changed_life of.kind))
change-few s project expects (what.Move of to) moment = one-few (option_map _ (moved_life of.kind))
change-few s project expects (what.Delete of) moment = one-few (option_map _ (deleted_life of.kind))
change-few s project expects other moment = omega arith

-- a success
lives-few : (d : Deed) → length (deed_lives d) ≤ 2
lives-few deed.Create = omega arith
lives-few deed.Copy = omega arith
lives-few deed.Update = omega arith
lives-few deed.Restore = omega arith
lives-few deed.Rename = omega arith
lives-few deed.Delete = omega arith
lives-few (deed.Act action.Start ephemeral) = omega arith
lives-few (deed.Act action.Stop true) = omega arith
lives-few (deed.Act action.Stop false) = omega arith
lives-few (deed.Act action.Restart ephemeral) = omega arith
lives-few (deed.Act action.Freeze ephemeral) = omega arith
lives-few (deed.Act action.Unfreeze ephemeral) = omega arith
lives-few deed.Snap = omega arith
lives-few deed.Unsnap = omega arith
lives-few deed.CopyVolume = omega arith

map-few : {X Y : Type 0} (f : X → Y) (xs : List X) → length (map f xs) ≡ length xs
map-few f [] = refl
map-few f (x ∷ xs) = ap suc (map-few f xs)

-- ---- a request

wait-aside : (s : State) (c : Command) (w : What) (r : Recent) → wait_or_read (with_recent r s) c w ≡ wait_or_read s c w
unfolding read usage_view used_by usage_of networks_of loads share_of amounts_of_instance part_of_share part_of_instance
wait-aside s c w r = refl

-- what is answered at once, and changes nothing
reads : (s : State) (c : Command) (w : What) → Leaves (λ r. and_then (wait_or_read (with_recent r s) c w) (with_recent r s))
reads s c w = as-leaves (λ r. ap (λ a. and_then a (with_recent r s)) (wait-aside s c w r)) (quiet (wait_or_read s c w) s)

cancelled-aside : (s : State) (number moment : ℕ) (r : Recent) → cancelled (with_recent r s) number moment ≡ with_recent r (cancelled s number moment)
unfolding cancelled
cancelled-aside s number moment r = refl

cancels : (s : State) (op moment : ℕ) (result : Result Status CancelFault)
    → Leaves (λ r. and_then (answer.Reply reply.Empty) (after_cancel (with_recent r s) op moment result))
cancels s op moment (Err why) = quiet (answer.Reply reply.Empty) s
cancels s op moment (Ok status.Cancelled) =
    tells (answer.Reply reply.Empty) (λ r. cancelled (with_recent r s) op moment) (cancelled s op moment) op moment (cancelled-aside s op moment)
cancels s op moment (Ok now) =
    tells (answer.Reply reply.Empty) (λ r. moved op now moment (with_recent r s)) (moved op now moment s) op moment (λ r. refl)

cancels-or-reads : (s : State) (c : Command) (moment : ℕ) (w : What) → Leaves (λ r. cancel_or_read (with_recent r s) c moment w)
cancels-or-reads s c moment (what.Cancel op) = cancels s op moment (cancel_answer (kept_at s.operations op))
cancels-or-reads s c moment other = reads s c other

entered-aside : (s : State) (task : Task) (moment : ℕ) (r : Recent) → entered (with_recent r s) task moment ≡ with_recent r (entered s task moment)
unfolding entered share_of amounts_of_instance part_of_share part_of_instance
entered-aside s task moment r = refl

begins : (s : State) (task : Task) (moment : ℕ) → Leaves (λ r. begun (with_recent r s) task moment)
begins s task moment =
    as-leaves (λ r. ap (λ t. and_then (answer.Reply (started t s.operations.next)) (with_operation_notice t s.operations.next moment)) (entered-aside s task moment r))
    (tells (answer.Reply (started (entered s task moment) s.operations.next)) (λ r. with_recent r (entered s task moment)) (entered s task moment) s.operations.next moment (λ r. refl))

carries : (s : State) (c : Command) (moment : ℕ) (p : Plan) → Leaves (λ r. carried_out (with_recent r s) c moment p)
carries s c moment nothing = cancels-or-reads s c moment c.what
carries s c moment (changes cs) = record {
  answer = answer.Reply reply.Empty;
  state = applied s cs;
  untold = change_notices s c moment;
  few = omega (arith, change-few s c.project c.expects c.what moment);
  is = λ r. ap (λ t. and_then (answer.Reply reply.Empty) (telling (change_notices s c moment) t)) (applied-aside cs s r);
}
carries s c moment (starts task) = begins s task moment

accepts : (s : State) (c : Command) (moment : ℕ) → Leaves (λ r. accepted (with_recent r s) c moment)
unfolding accepted
accepts s c moment =
    as-leaves (λ r. ap (λ p. carried_out (with_recent r s) c moment p) (plan-aside s c moment r)) (carries s c moment (plan_of s c moment))

unavailable-apart : (s : State) (p : Plan) → Apart (λ r. unavailable (with_recent r s) p)
unavailable-apart s nothing = never (λ r. refl)
unavailable-apart s (changes cs) = some (quiet _ s)
unavailable-apart s (starts task) = never (λ r. refl)

asked-apart : (s : State) (c : Command) (moment : ℕ) (outcome : Outcome) (refused : Option Refusal) → Apart (λ r. after_command (with_recent r s) c moment outcome refused)
asked-apart s c moment well (Some refusal) = some (quiet _ s)
asked-apart s c moment well None = some (accepts s c moment)
asked-apart s c moment (keeper_failed rise) (Some refusal) = never (λ r. refl)
asked-apart s c moment (keeper_failed rise) None =
    as-apart (λ r. ap (unavailable (with_recent r s)) (plan-aside s c moment r)) (unavailable-apart s (plan_of s c moment))
asked-apart s c moment no_memory None = some (quiet _ s)
asked-apart s c moment no_memory (Some refusal) = some (quiet _ s)

-- ---- a worker asks

hands-out : (s : State) (o : Operation Task) (moment : ℕ) (calls : List HostCall) → Leaves (λ r. handed_out (with_recent r s) o moment calls)
hands-out s o moment [] = quiet answer.NoJob s
hands-out s o moment (call ∷ rest) =
    tells (answer.Job o.number call) (λ r. with_task o.number (handing_out o.work rest) (moved o.number status.Running moment (with_recent r s)))
    (with_task o.number (handing_out o.work rest) (moved o.number status.Running moment s)) o.number moment (λ r. refl)

takes : (s : State) (moment : ℕ) (o : Option (Operation Task)) → Leaves (λ r. taken (with_recent r s) moment o)
takes s moment (Some o) = hands-out s o moment o.work.calls
takes s moment None = quiet (cond s.closed answer.Closed answer.NoJob) s

-- ---- a worker reports

telling-append : (ns us : List Untold) (s : State) → telling (ns ++ us) s ≡ telling us (telling ns s)
telling-append [] us s = refl
telling-append (n ∷ ns) us s = telling-append ns us (push_notice n s)

pub same-operations : (ns : List Untold) (s : State) → (telling ns s).operations ≡ s.operations
same-operations ns s = telling-keeps (λ t. t.operations ≡ s.operations) (λ t some next e. e) ns s refl

power-aside : (task : Task) (p : Option Power) (s : State) (r : Recent) → with_power_after task p (with_recent r s) ≡ with_recent r (with_power_after task p s)
power-aside task None s r = refl
power-aside task (Some power) s r = refl

succeeded-aside : (s : State) (o : Operation Task) (moment : ℕ) (r : Recent) → succeeded (with_recent r s) o moment ≡ with_recent r (succeeded s o moment)
unfolding succeeded
succeeded-aside s o moment r =
    let power = power_after s o.work in
    let cs = success_changes s o.work in
    ap (λ t. converted o.number (ended o.number status.Success op_fault.None moment t))
    (ap (λ t. applied t cs) (power-aside o.work power s r) ∙ applied-aside cs (with_power_after o.work power s) r)

-- a success tells of its object and then of itself
succeeds : (s : State) (o : Operation Task) (moment : ℕ) → Leaves (λ r. success (with_recent r s) o moment)
succeeds s o moment = record {
  answer = answer.Ended o.number;
  state = t;
  untold = lives ++ operation_notice t o.number moment;
  few = few;
  is = λ r.
      ap (λ x. over_all (telling lives x)) (succeeded-aside s o moment r)
      ∙ ap (λ (k : OperationTable Task). and_then (answer.Ended o.number) (telling (shown k) (telling lives (with_recent r t)))) (same-operations lives (with_recent r t))
      ∙ ap (and_then (answer.Ended o.number)) (sym (telling-append lives (operation_notice t o.number moment) (with_recent r t)));
} where
  t : State
  t = succeeded s o moment

  lives : List Untold
  lives = success_notices o.work moment

  over_all : State → After
  over_all x = and_then (answer.Ended o.number) (with_operation_notice x o.number moment)

  shown : OperationTable Task → List Untold
  shown k = option_to_list (option_map (λ (x : Operation Task). record { moment = moment; project = x.work.project; body = event_body.Op (view_of x) }) (kept_at k o.number))

  few : length (success_notices o.work moment ++ operation_notice (succeeded s o moment) o.number moment) ≤ 8
  few = omega (
    arith,
    length-append (success_notices o.work moment) (operation_notice (succeeded s o moment) o.number moment),
    map-few (life_notice moment o.work.project (object_told o.work)) (deed_lives o.work.deed),
    lives-few o.work.deed,
    one-few {X = Untold} (option_map (λ (x : Operation Task). record { moment = moment; project = x.work.project; body = event_body.Op (view_of x) }) (kept_at (succeeded s o moment).operations o.number)),
  )

failure-aside : (task : Task) (count : ℕ) (s : State) (r : Recent) → after_failure task count (with_recent r s) ≡ with_recent r (after_failure task count s)
failure-aside task count s r = by (nat_lt 0 count && breaks_instance task.deed) where
  by : (b : Bool) → cond b (with_power (with_recent r s) task.project task.target.name Error) (with_recent r s)
      ≡ with_recent r (cond b (with_power s task.project task.target.name Error) s)
  by true = refl
  by false = refl

failed-aside : (s : State) (o : Operation Task) (why : OpFault) (count moment : ℕ) (r : Recent)
    → failed (with_recent r s) o why count moment ≡ with_recent r (failed s o why count moment)
unfolding failed
failed-aside s o why count moment r =
    ap (λ t. returned o.number (ended o.number status.Failure why moment t)) (failure-aside o.work count s r)

fails : (s : State) (o : Operation Task) (why : OpFault) (count moment : ℕ) → Leaves (λ r. failure (with_recent r s) o why count moment)
fails s o why count moment =
    tells (answer.Ended o.number) (λ r. failed (with_recent r s) o why count moment) (failed s o why count moment) o.number moment (failed-aside s o why count moment)

committed-apart : (s : State) (o : Operation Task) (moment : ℕ) (outcome : Outcome) (cs : List RowChange) → Apart (λ r. committed (with_recent r s) o moment outcome cs)
committed-apart s o moment well [] = some (succeeds s o moment)
committed-apart s o moment well (c ∷ cs) = some (succeeds s o moment)
committed-apart s o moment (keeper_failed rise) [] = never (λ r. refl)
committed-apart s o moment (keeper_failed rise) (c ∷ cs) = some (fails s o (op_fault.Keeper rise.before rise.after) (o.work.done + 1) moment)
committed-apart s o moment no_memory [] = some (fails s o op_fault.NoMemory (o.work.done + 1) moment)
committed-apart s o moment no_memory (c ∷ cs) = some (fails s o op_fault.NoMemory (o.work.done + 1) moment)

call_done-apart : (s : State) (o : Operation Task) (moment : ℕ) (outcome : Outcome) (calls : List HostCall) → Apart (λ r. call_done (with_recent r s) o moment outcome calls)
call_done-apart s o moment well (call ∷ rest) = some (quiet (answer.Job o.number call) (with_task o.number (one_more_done o.work rest) s))
call_done-apart s o moment (keeper_failed rise) (call ∷ rest) = never (λ r. refl)
call_done-apart s o moment no_memory (call ∷ rest) = never (λ r. refl)
call_done-apart s o moment well [] = committed-apart s o moment well (success_changes s o.work)
call_done-apart s o moment (keeper_failed rise) [] = committed-apart s o moment (keeper_failed rise) (success_changes s o.work)
call_done-apart s o moment no_memory [] = committed-apart s o moment no_memory (success_changes s o.work)

call_failed-apart : (s : State) (o : Operation Task) (moment : ℕ) (outcome : Outcome) (why : OpFault) → Apart (λ r. call_failed (with_recent r s) o moment outcome why)
call_failed-apart s o moment well why = some (fails s o why o.work.done moment)
call_failed-apart s o moment (keeper_failed rise) why = never (λ r. refl)
call_failed-apart s o moment no_memory why = never (λ r. refl)

running-apart : (s : State) (o : Operation Task) (r : Report) (moment : ℕ) (outcome : Outcome) → Apart (λ x. while_running (with_recent x s) o r moment outcome)
running-apart s o report.Done moment outcome = call_done-apart s o moment outcome o.work.calls
running-apart s o (report.Failed rise) moment outcome = call_failed-apart s o moment outcome _
running-apart s o report.NoMemory moment outcome = call_failed-apart s o moment outcome _

cancelling-apart : (s : State) (o : Operation Task) (moment : ℕ) (outcome : Outcome) (undo : Option HostCall) → Apart (λ r. while_cancelling (with_recent r s) o moment outcome undo)
cancelling-apart s o moment well (Some call) = some (quiet (answer.Job o.number call) (with_task o.number (undone o.work) s))
cancelling-apart s o moment well None =
    some (tells (answer.Ended o.number) (λ r. cancelled (with_recent r s) o.number moment) (cancelled s o.number moment) o.number moment (cancelled-aside s o.number moment))
cancelling-apart s o moment (keeper_failed rise) None = never (λ r. refl)
cancelling-apart s o moment (keeper_failed rise) (Some call) = never (λ r. refl)
cancelling-apart s o moment no_memory None = never (λ r. refl)
cancelling-apart s o moment no_memory (Some call) = never (λ r. refl)

stray-apart : (s : State) (number : ℕ) (outcome : Outcome) → Apart (λ r. stray (with_recent r s) number outcome)
stray-apart s number well = some (quiet (answer.Stray number) s)
stray-apart s number (keeper_failed rise) = never (λ r. refl)
stray-apart s number no_memory = never (λ r. refl)

reported-apart : (s : State) (o : Operation Task) (r : Report) (moment : ℕ) (outcome : Outcome) (now : Status) → Apart (λ x. reported (with_recent x s) o r moment outcome now)
reported-apart s o r moment outcome status.Running = running-apart s o r moment outcome
reported-apart s o r moment outcome status.Cancelling = cancelling-apart s o moment outcome o.work.undo
reported-apart s o r moment outcome status.Pending = stray-apart s o.number outcome
reported-apart s o r moment outcome status.Success = stray-apart s o.number outcome
reported-apart s o r moment outcome status.Failure = stray-apart s o.number outcome
reported-apart s o r moment outcome status.Cancelled = stray-apart s o.number outcome

done-apart : (s : State) (number : ℕ) (r : Report) (moment : ℕ) (outcome : Outcome) (o : Option (Operation Task)) → Apart (λ x. done (with_recent x s) number r moment outcome o)
done-apart s number r moment outcome (Some o) = reported-apart s o r moment outcome o.status
done-apart s number r moment outcome None = stray-apart s number outcome

-- ---- all events

always-apart : {g : Recent → After} (outcome : Outcome) → Leaves g → Apart (λ r. always (g r) outcome)
always-apart well l = some l
always-apart (keeper_failed rise) l = never (λ r. refl)
always-apart no_memory l = never (λ r. refl)

pub step-apart : (s : State) (e : Event) (outcome : Outcome) → IsNoFetch e → Apart (λ r. step (with_recent r s) e outcome)
unfolding step
step-apart s (event.Ask c moment) outcome free =
    as-apart (λ r. ap (after_command (with_recent r s) c moment outcome) (broken-aside s c moment r)) (asked-apart s c moment outcome (broken s c moment))
step-apart s (event.Look number) outcome free =
    always-apart outcome (quiet (cond (is_some (live_at s.operations number)) (answer.NotYet number) (answer.Ended number)) s)
step-apart s (event.Take moment) outcome free = always-apart outcome (takes s moment (first_pending s))
step-apart s (event.Done number r moment) outcome free = done-apart s number r moment outcome (live_at s.operations number)
step-apart s (event.Fetch cursor filter) outcome free = absurd free
step-apart s event.Close outcome free = always-apart outcome (quiet answer.Closed (record s { closed = true }))
