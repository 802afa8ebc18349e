-- Each step keeps the defaults: the project `default` with all features, and a profile `default` in each project with
-- profiles of its own.
use Rattle.std.proofs.Common.{◌≡◌, ℕ, true, Some, List, [], ◌∷◌, refl}
use Rattle.plain_lists.proofs.Searches.{find-some}
use Rattle.host_model.specs.declared.call.HostCall.{HostCall}
use Rattle.operations.specs.declared.operation.Operation.{Operation}
use Rattle.operations.specs.declared.operation.OpFault.{OpFault}
use Rattle.operations.specs.declared.status.Status.TheVariants.{Running, Cancelling}
use Rattle.operations.specs.OperationTable.{live_at, has_number}
use Rattle.records.specs.declared.commands.Command.{Command}
use Rattle.records.specs.declared.notices.Untold.{Untold}
use Rattle.row_machine.specs.declared.changes.RowChange.{RowChange}
use Rattle.row_machine.specs.machine.Task.{Task}
use Rattle.row_machine.specs.machine.State.{State}
use Rattle.row_machine.specs.machine.Changes.{applied}
use Rattle.row_machine.specs.shown.Notices.{telling}
use Rattle.row_machine.specs.machine.Plans.{changes, starts}
use Rattle.row_machine.specs.machine.Step.{first_pending}
use Rattle.row_machine.specs.machine.Operations.{entered, with_task, moved, handing_out, one_more_done, undone, cancelled, failed, succeeded}
use Rattle.row_machine.specs.facts.Whole.{IsWhole, HasDefaults}
use Rattle.machine_laws.proofs.Cases.{IsAccepted, IsLiveAs}
use Rattle.machine_laws.proofs.AtOnceCases.{at_once}
use Rattle.machine_laws.proofs.Judged.{judged}
use Rattle.machine_laws.proofs.DefaultsAside.{defaults-same, entered-defaults, cancelled-defaults, failed-defaults, telling-defaults, succeeded-defaults}
use Rattle.machine_laws.proofs.DefaultsChanged.{changed-defaults}

module _ {s : State} {c : Command} {moment : ℕ} where
  pub defaults-changes : {cs : List RowChange} → IsAccepted s c moment (changes cs) → HasDefaults (applied s cs)
  defaults-changes {cs} h = changed-defaults h.whole (at_once h) (judged h)

  pub defaults-entered : {task : Task} → IsAccepted s c moment (starts task) → HasDefaults (entered s task moment)
  defaults-entered {task} h = entered-defaults s task moment h.whole.defaults

module _ (s : State) (o : Operation Task) where
  pub defaults-taken : (moment : ℕ) {call : HostCall} {rest : List HostCall} → IsWhole s → first_pending s ≡ Some o
      → o.work.calls ≡ call ∷ rest
      → HasDefaults (with_task o.number (handing_out o.work rest) (moved o.number Running moment s))
  defaults-taken moment h first calls = defaults-same refl refl h.defaults

  pub defaults-next : {call : HostCall} {rest : List HostCall} → IsLiveAs s o Running → o.work.calls ≡ call ∷ rest
      → HasDefaults (with_task o.number (one_more_done o.work rest) s)
  defaults-next h calls = defaults-same refl refl h.whole.defaults

  pub defaults-undone : {call : HostCall} → IsLiveAs s o Cancelling → o.work.undo ≡ Some call
      → HasDefaults (with_task o.number (undone o.work) s)
  defaults-undone h undo = defaults-same refl refl h.whole.defaults

  pub defaults-cancelling : (moment : ℕ) → IsLiveAs s o Running → o.may_cancel ≡ true
      → HasDefaults (moved o.number Cancelling moment s)
  defaults-cancelling moment h may = defaults-same refl refl h.whole.defaults

  pub defaults-cancelled : (moment : ℕ) → IsWhole s → live_at s.operations o.number ≡ Some o
      → HasDefaults (cancelled s o.number moment)
  defaults-cancelled moment h live = cancelled-defaults s o.number moment h.defaults

  pub defaults-failed : (why : OpFault) (done moment : ℕ) → IsLiveAs s o Running
      → HasDefaults (failed s o why done moment)
  defaults-failed why done moment h = failed-defaults s o why done moment h.whole.defaults

  pub defaults-succeeded : (moment : ℕ) → IsLiveAs s o Running → o.work.calls ≡ []
      → HasDefaults (succeeded s o moment)
  defaults-succeeded moment h none =
      succeeded-defaults s o moment
      (h.whole.operations.deeds.at o (find-some (has_number o.number) s.operations.live o h.live).0)
      h.whole.defaults

pub defaults-telling : (s : State) (notices : List Untold) → IsWhole s → HasDefaults (telling notices s)
defaults-telling s notices h = telling-defaults notices s h.defaults
