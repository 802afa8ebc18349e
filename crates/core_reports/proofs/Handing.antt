-- What a step of an operation comes to, from the change that it makes: a call is handed out, or the operation ends.
use Rattle.std.proofs.Common.{◌≡◌, ℕ, List, [], ◌∷◌, Option, Some, refl, ap, sym, ◌∙◌}
use Rattle.std.specs.Option.{option_map, option_to_list}
use Rattle.std.proofs.lemmas.Bool.{eq-eqb}
use Rattle.plain_lists.proofs.EditLemmas.{find-changed}
use Rattle.host_model.specs.declared.call.HostCall.{HostCall}
use Rattle.host_model.specs.declared.report.Report.{Report}
use Rattle.host_model.specs.declared.report.Report.TheVariants as report
use Rattle.operations.specs.declared.operation.Operation.{Operation}
use Rattle.operations.specs.declared.status.Status.{Status}
use Rattle.operations.specs.declared.status.Status.TheVariants.{Running, Cancelling}
use Rattle.operations.specs.OperationTable.{has_number, live_at, kept_at}
use Rattle.records.specs.declared.notices.EventBody.TheVariants as body
use Rattle.records.specs.declared.notices.Untold.{Untold}
use Rattle.row_machine.specs.declared.events.Answer.TheVariants as answer
use Rattle.row_machine.specs.declared.events.Event.TheVariants as event
use Rattle.row_machine.specs.machine.Task.{Task}
use Rattle.row_machine.specs.machine.State.{State}
use Rattle.row_machine.specs.machine.Accept.{and_then, with_operation_notice}
use Rattle.row_machine.specs.machine.Step.{well, step, first_pending, taken, handed_out, done, reported, call_done, while_cancelling}
use Rattle.row_machine.specs.machine.Operations.{with_task, moved, handing_out, one_more_done, undone}
use Rattle.row_machine.specs.shown.Notices.{telling, view_of}
use Rattle.machine_laws.proofs.CancelsBegin.{live-kept}
use Rattle.core_reports.specs.Jobs.{IsTaken}

-- the notice of an operation as it is
abbrev pub notice_of : Operation Task → ℕ → Untold
notice_of o moment = record { moment = moment; project = o.work.project; body = body.Op (view_of o) }

-- an operation that is kept is told
pub told-kept : (s : State) (o : Operation Task) (number moment : ℕ) → kept_at s.operations number ≡ Some o → with_operation_notice s number moment ≡ telling (notice_of o moment ∷ []) s
told-kept s o number moment kept =
    ap (λ (x : Option (Operation Task)). telling (option_to_list (option_map (λ (o : Operation Task). notice_of o moment) x)) s) kept

-- a live operation with another task and another status is found
pub with-task-live : (s : State) (o : Operation Task) (task : Task) → live_at s.operations o.number ≡ Some o
    → live_at (with_task o.number task s).operations o.number ≡ Some (record o { work = task })
with-task-live s o task live =
    find-changed (has_number o.number) (λ (x : Operation Task). record x { work = task }) o s.operations.live live (eq-eqb o.number o.number refl)

pub moved-live : (s : State) (o : Operation Task) (now : Status) (moment : ℕ) → live_at s.operations o.number ≡ Some o
    → live_at (moved o.number now moment s).operations o.number ≡ Some (record o { status = now; updated = moment })
moved-live s o now moment live =
    find-changed (has_number o.number) (λ (x : Operation Task). record x { status = now; updated = moment }) o s.operations.live live (eq-eqb o.number o.number refl)

-- ---- a call is handed out

module _ (s : State) (o : Operation Task) (call : HostCall) (rest : List HostCall) where
  -- the first one
  pub first-taken : (moment : ℕ) (s' : State) (untold : List Untold) → first_pending s ≡ Some o → live_at s.operations o.number ≡ Some o → o.work.calls ≡ call ∷ rest
      → s' ≡ with_task o.number (handing_out o.work rest) (moved o.number Running moment s)
      → untold ≡ notice_of (record o { status = Running; updated = moment; work = handing_out o.work rest }) moment ∷ []
      → IsTaken s moment (Some (o.number, call)) s' untold
  unfolding step
  first-taken moment s' untold first live calls made tells =
      ap (λ x. Some (taken s moment x)) first
      ∙ ap (λ cs. Some (handed_out s o moment cs)) calls
      ∙ ap (λ t. Some (and_then (answer.Job o.number call) t))
      (told-kept after now o.number moment (live-kept after o.number now
      (with-task-live (moved o.number Running moment s) (record o { status = Running; updated = moment }) (handing_out o.work rest)
      (moved-live s o Running moment live)))
      ∙ ap (λ t. telling (notice_of now moment ∷ []) t) (sym made)
      ∙ ap (λ ns. telling ns s') (sym tells))
    where
      now : Operation Task
      now = record o { status = Running; updated = moment; work = handing_out o.work rest }

      after : State
      after = with_task o.number (handing_out o.work rest) (moved o.number Running moment s)

  -- the next one
  pub next-step : (moment : ℕ) → live_at s.operations o.number ≡ Some o → o.status ≡ Running → o.work.calls ≡ call ∷ rest
      → step s (event.Done o.number report.Done moment) well ≡ Some (and_then (answer.Job o.number call) (with_task o.number (one_more_done o.work rest) s))
  unfolding step
  next-step moment live running calls =
      ap (done s o.number report.Done moment well) live
      ∙ ap (reported s o report.Done moment well) running
      ∙ ap (call_done s o moment well) calls

  -- the one that takes the deed back
  pub undo-step : (r : Report) (moment : ℕ) → live_at s.operations o.number ≡ Some o → o.status ≡ Cancelling → o.work.undo ≡ Some call
      → step s (event.Done o.number r moment) well ≡ Some (and_then (answer.Job o.number call) (with_task o.number (undone o.work) s))
  unfolding step
  undo-step r moment live cancelling undo =
      ap (done s o.number r moment well) live
      ∙ ap (reported s o r moment well) cancelling
      ∙ ap (while_cancelling s o moment well) undo
