-- What the end of an operation comes to, as one step of the machine.
use Rattle.std.proofs.Common.{◌≡◌, ℕ, List, [], ◌∷◌, ◌++◌, Option, Some, None, refl, ap, sym, ◌∙◌}
use Rattle.host_model.specs.declared.report.Report.{Report}
use Rattle.host_model.specs.declared.report.Report.TheVariants as report
use Rattle.operations.specs.declared.operation.Operation.{Operation}
use Rattle.operations.specs.declared.operation.OpFault.{OpFault}
use Rattle.operations.specs.declared.operation.OpFault.TheVariants as fault
use Rattle.operations.specs.declared.status.Status.{Status}
use Rattle.operations.specs.declared.status.Status.TheVariants as status
use Rattle.operations.specs.OperationTable.{OperationTable, live_at, kept_at, ends}
use Rattle.operations.specs.Facts.{AreKept}
use Rattle.records.specs.declared.notices.Untold.{Untold}
use Rattle.row_machine.specs.declared.events.Answer.TheVariants as answer
use Rattle.row_machine.specs.declared.events.Event.TheVariants as event
use Rattle.row_machine.specs.machine.Task.{Task}
use Rattle.row_machine.specs.machine.State.{State}
use Rattle.row_machine.specs.machine.Accept.{After, and_then, with_operation_notice}
use Rattle.row_machine.specs.machine.Step.{Outcome, well, step, done, reported, while_running, call_done, committed, while_cancelling, failure, success}
use Rattle.row_machine.specs.machine.Operations.{failed, succeeded, cancelled, success_changes, power_after, with_power_after}
use Rattle.row_machine.specs.shown.Notices.{telling, success_notices}
use Rattle.machine_laws.proofs.BooksSteps.{telling-keeps, failure-keeps, applied-same}
use Rattle.machine_laws.proofs.EndsLive.{found-ended}
use Rattle.machine_laws.proofs.NamesDeeds.{power_after-operations}
use Rattle.core_reports.proofs.Handing.{notice_of, told-kept}

-- an operation as it ended
abbrev pub as_ended : Operation Task → Status → OpFault → ℕ → Operation Task
as_ended o now why moment = record o { status = now; fault = why; updated = moment }

-- notices one after the other
pub telling-after : (ns ms : List Untold) (s : State) → telling ms (telling ns s) ≡ telling (ns ++ ms) s
telling-after [] ms s = refl
telling-after (n ∷ ns) ms s = telling-after ns ms _

-- what is told of operations changes none
told-operations : (ns : List Untold) (s : State) → (telling ns s).operations ≡ s.operations
told-operations ns s = telling-keeps (λ t. t.operations ≡ s.operations) (λ t some next e. e) ns s refl

module _ (s : State) (o : Operation Task) (moment : ℕ) (kept : AreKept s.operations) (live : live_at s.operations o.number ≡ Some o) where
  -- ---- what is kept of it afterwards

  pub failed-kept : (why : OpFault) (count : ℕ) → kept_at (failed s o why count moment).operations o.number ≡ Some (as_ended o status.Failure why moment)
  unfolding failed
  failed-kept why count =
      ap (λ (k : OperationTable Task). kept_at (ends o.number status.Failure why moment k) o.number)
      (failure-keeps (λ t. t.operations ≡ s.operations) (λ t powers e. e) o.work count s refl)
      ∙ found-ended s.operations o.number status.Failure why moment o kept live

  pub cancelled-kept : kept_at (cancelled s o.number moment).operations o.number ≡ Some (as_ended o status.Cancelled fault.None moment)
  unfolding cancelled
  cancelled-kept = found-ended s.operations o.number status.Cancelled fault.None moment o kept live

  pub succeeded-kept : kept_at (succeeded s o moment).operations o.number ≡ Some (as_ended o status.Success fault.None moment)
  unfolding succeeded
  succeeded-kept =
      ap (λ (k : OperationTable Task). kept_at (ends o.number status.Success fault.None moment k) o.number)
      ((applied-same (success_changes s o.work) (with_power_after o.work (power_after s o.work) s)).operations
      ∙ power_after-operations o.work (power_after s o.work) s)
      ∙ found-ended s.operations o.number status.Success fault.None moment o kept live

  -- ---- as the machine tells it

  pub failure-is : (why : OpFault) (count : ℕ) (s' : State) (untold : List Untold) → s' ≡ failed s o why count moment
      → untold ≡ notice_of (as_ended o status.Failure why moment) moment ∷ [] → failure s o why count moment ≡ and_then (answer.Ended o.number) (telling untold s')
  failure-is why count s' untold made tells =
      ap (and_then (answer.Ended o.number))
      (told-kept (failed s o why count moment) (as_ended o status.Failure why moment) o.number moment (failed-kept why count)
      ∙ ap (telling (notice_of (as_ended o status.Failure why moment) moment ∷ [])) (sym made)
      ∙ ap (λ ns. telling ns s') (sym tells))

  pub cancelled-is : (s' : State) (untold : List Untold) → s' ≡ cancelled s o.number moment
      → untold ≡ notice_of (as_ended o status.Cancelled fault.None moment) moment ∷ []
      → and_then (answer.Ended o.number) (with_operation_notice (cancelled s o.number moment) o.number moment) ≡ and_then (answer.Ended o.number) (telling untold s')
  cancelled-is s' untold made tells =
      ap (and_then (answer.Ended o.number))
      (told-kept (cancelled s o.number moment) (as_ended o status.Cancelled fault.None moment) o.number moment cancelled-kept
      ∙ ap (telling (notice_of (as_ended o status.Cancelled fault.None moment) moment ∷ [])) (sym made)
      ∙ ap (λ ns. telling ns s') (sym tells))

  pub success-is : (s' : State) (untold : List Untold) → s' ≡ succeeded s o moment
      → untold ≡ success_notices o.work moment ++ notice_of (as_ended o status.Success fault.None moment) moment ∷ []
      → success s o moment ≡ and_then (answer.Ended o.number) (telling untold s')
  success-is s' untold made tells =
      ap (and_then (answer.Ended o.number))
      (told-kept (telling (success_notices o.work moment) (succeeded s o moment)) (as_ended o status.Success fault.None moment) o.number moment
      (ap (λ (k : OperationTable Task). kept_at k o.number) (told-operations (success_notices o.work moment) (succeeded s o moment)) ∙ succeeded-kept)
      ∙ telling-after (success_notices o.work moment) (notice_of (as_ended o status.Success fault.None moment) moment ∷ []) (succeeded s o moment)
      ∙ ap (telling (success_notices o.work moment ++ notice_of (as_ended o status.Success fault.None moment) moment ∷ [])) (sym made)
      ∙ ap (λ ns. telling ns s') (sym tells))

  -- ---- which report ends it so

  abbrev reports : Report → Outcome → Option After
  reports r outcome = step s (event.Done o.number r moment) outcome

  pub running-step : (r : Report) (outcome : Outcome) → o.status ≡ status.Running → reports r outcome ≡ while_running s o r moment outcome
  unfolding step
  running-step r outcome running = ap (done s o.number r moment outcome) live ∙ ap (reported s o r moment outcome) running

  pub last-step : (outcome : Outcome) → o.status ≡ status.Running → o.work.calls ≡ []
      → reports report.Done outcome ≡ committed s o moment outcome (success_changes s o.work)
  last-step outcome running none = running-step report.Done outcome running ∙ ap (call_done s o moment outcome) none

  pub cancelled-step : (r : Report) → o.status ≡ status.Cancelling → o.work.undo ≡ None
      → reports r well ≡ Some (and_then (answer.Ended o.number) (with_operation_notice (cancelled s o.number moment) o.number moment))
  unfolding step
  cancelled-step r cancelling none =
      ap (done s o.number r moment well) live ∙ ap (reported s o r moment well) cancelling ∙ ap (while_cancelling s o moment well) none
