-- Each step keeps the references: all that rows, claims and operations name exists.
use Rattle.std.proofs.Common.{◌≡◌, ℕ, true, Some, List, [], ◌∷◌, refl}
use Rattle.host_model.specs.declared.call.HostCall.{HostCall}
use Rattle.operations.specs.declared.operation.Operation.{Operation}
use Rattle.operations.specs.declared.operation.OpFault.{OpFault}
use Rattle.operations.specs.declared.status.Status.TheVariants.{Running, Cancelling}
use Rattle.operations.specs.OperationTable.{live_at}
use Rattle.records.specs.declared.commands.Command.{Command}
use Rattle.records.specs.declared.notices.Untold.{Untold}
use Rattle.row_machine.specs.declared.changes.RowChange.{RowChange}
use Rattle.row_machine.specs.machine.Task.{Task}
use Rattle.row_machine.specs.machine.State.{State}
use Rattle.row_machine.specs.machine.Changes.{applied}
use Rattle.row_machine.specs.shown.Notices.{telling}
use Rattle.row_machine.specs.machine.Plans.{changes, starts}
use Rattle.row_machine.specs.machine.Step.{first_pending}
use Rattle.row_machine.specs.machine.Operations.{entered, with_task, moved, handing_out, one_more_done, undone, cancelled, failed, succeeded}
use Rattle.row_machine.specs.facts.Whole.{IsWhole, ReferencesExist}
use Rattle.machine_laws.proofs.Cases.{IsAccepted, IsLiveAs}
use Rattle.machine_laws.proofs.AtOnceCases.{at_once}
use Rattle.machine_laws.proofs.BeginsCases.{begins}
use Rattle.machine_laws.proofs.Judged.{judged, entry_judged}
use Rattle.machine_laws.proofs.ReferencesBegins.{begins-placed, begins-few, begins-snapshot}
use Rattle.machine_laws.proofs.ReferencesEntered.{entered-references, claim-refers}
use Rattle.machine_laws.proofs.ReferencesChanged.{changed-references}
use Rattle.machine_laws.proofs.ReferencesSucceeded.{succeeded-references}
use Rattle.machine_laws.proofs.ReferencesOperations.{task-references, moved-references, running-references, cancelled-references, failed-references, telling-references}
use Rattle.machine_laws.proofs.NamesLive.{pending-live}

module _ {s : State} {c : Command} {moment : ℕ} where
  pub references-changes : {cs : List RowChange} → IsAccepted s c moment (changes cs) → ReferencesExist (applied s cs)
  references-changes h = changed-references h.whole (at_once h) (judged h)

  pub references-entered : {task : Task} → IsAccepted s c moment (starts task) → ReferencesExist (entered s task moment)
  references-entered {task} h =
      let begun = begins h in
      entered-references s task moment h.whole.references (begins-placed h.whole.references begun)
      (λ i is. claim-refers s task moment i is (entry_judged h).settings (begins-few h.whole.references begun i is))
      (begins-snapshot h.whole.references begun)

module _ (s : State) (o : Operation Task) where
  pub references-taken : (moment : ℕ) {call : HostCall} {rest : List HostCall} → IsWhole s → first_pending s ≡ Some o
      → o.work.calls ≡ call ∷ rest
      → ReferencesExist (with_task o.number (handing_out o.work rest) (moved o.number Running moment s))
  references-taken moment {rest} h first calls =
      running-references s o (handing_out o.work rest) Running moment (pending-live s o h first) refl h.references

  pub references-next : {call : HostCall} {rest : List HostCall} → IsLiveAs s o Running → o.work.calls ≡ call ∷ rest
      → ReferencesExist (with_task o.number (one_more_done o.work rest) s)
  references-next {rest} h calls = task-references s o (one_more_done o.work rest) h.live refl h.whole.references

  pub references-undone : {call : HostCall} → IsLiveAs s o Cancelling → o.work.undo ≡ Some call
      → ReferencesExist (with_task o.number (undone o.work) s)
  references-undone h undo = task-references s o (undone o.work) h.live refl h.whole.references

  pub references-cancelling : (moment : ℕ) → IsLiveAs s o Running → o.may_cancel ≡ true
      → ReferencesExist (moved o.number Cancelling moment s)
  references-cancelling moment h may = moved-references s o Cancelling moment h.live h.whole.references

  pub references-cancelled : (moment : ℕ) → IsWhole s → live_at s.operations o.number ≡ Some o
      → ReferencesExist (cancelled s o.number moment)
  references-cancelled moment h live = cancelled-references s o.number moment h.references

  pub references-failed : (why : OpFault) (done moment : ℕ) → IsLiveAs s o Running → ReferencesExist (failed s o why done moment)
  references-failed why done moment h = failed-references s o why done moment h.whole.references

  pub references-succeeded : (moment : ℕ) → IsLiveAs s o Running → o.work.calls ≡ [] → ReferencesExist (succeeded s o moment)
  references-succeeded moment h none = succeeded-references h.whole h.live moment

pub references-telling : (s : State) (notices : List Untold) → IsWhole s → ReferencesExist (telling notices s)
references-telling s notices h = telling-references notices s h.references
