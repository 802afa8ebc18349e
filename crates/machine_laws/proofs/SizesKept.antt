-- Fact 10 after each kind of change: sizes.
use Rattle.std.proofs.Common.{◌≡◌, ℕ, true, Some, List, [], ◌∷◌, refl}
use Rattle.host_model.specs.declared.call.HostCall.{HostCall}
use Rattle.operations.specs.declared.operation.Operation.{Operation}
use Rattle.operations.specs.declared.operation.OpFault.{OpFault}
use Rattle.operations.specs.declared.status.Status.TheVariants.{Running, Cancelling}
use Rattle.operations.specs.OperationTable.{live_at}
use Rattle.records.specs.declared.commands.Command.{Command}
use Rattle.records.specs.declared.notices.Untold.{Untold}
use Rattle.row_machine.specs.declared.changes.RowChange.{RowChange}
use Rattle.row_machine.specs.machine.Task.{Task}
use Rattle.row_machine.specs.machine.State.{State}
use Rattle.row_machine.specs.machine.Changes.{applied, rows_put}
use Rattle.row_machine.specs.machine.Plans.{changes, starts}
use Rattle.row_machine.specs.machine.Operations.{with_task, moved, handing_out, one_more_done, undone, claiming, entered, succeeded, failed, cancelled}
use Rattle.row_machine.specs.shown.Notices.{telling}
use Rattle.row_machine.specs.machine.Step.{first_pending}
use Rattle.row_machine.specs.facts.Whole.{IsWhole, AreFew}
use Rattle.std.specs.Option.{option_to_list}
use Rattle.machine_laws.proofs.Cases.{IsAccepted, IsLiveAs}
use Rattle.machine_laws.proofs.Judged.{judged, entry_judged}
use Rattle.machine_laws.proofs.NamesLive.{moved-live}
use Rattle.machine_laws.proofs.Base.{first-live}
use Rattle.machine_laws.proofs.SizesTables.{tables-judged}
use Rattle.machine_laws.proofs.SizesNotices.{few-telling}
use Rattle.machine_laws.proofs.SizesSteps.{few-task, few-moved, few-entered, few-cancelled, few-failed, few-applied, few-succeeded}

pub sizes-changes : {s : State} {c : Command} {moment : ℕ} {cs : List RowChange} → IsAccepted s c moment (changes cs) → AreFew (applied s cs)
sizes-changes {s} {cs} h =
    let says = tables-judged (applied s cs) (rows_put cs) (judged h).tables in
    few-applied s cs says.0 says.1 h.whole.sizes

pub sizes-entered : {s : State} {c : Command} {moment : ℕ} {task : Task} → IsAccepted s c moment (starts task) → AreFew (entered s task moment)
sizes-entered {s} {moment} {task} h =
    let says = tables-judged (claiming s task moment) (option_to_list task.claim) (entry_judged h).tables in
    few-entered s task moment says.0 says.1 h.whole.sizes

pub sizes-taken : (s : State) (o : Operation Task) (moment : ℕ) {call : HostCall} {rest : List HostCall}
    → IsWhole s → first_pending s ≡ Some o → o.work.calls ≡ call ∷ rest
    → AreFew (with_task o.number (handing_out o.work rest) (moved o.number Running moment s))
sizes-taken s o moment {rest} h first calls =
    let live = (first-live s o h first).0 in
    few-task (moved o.number Running moment s) (record o { status = Running; updated = moment }) (handing_out o.work rest)
    (moved-live s o Running moment live) refl (few-moved s o Running moment live h.sizes)

pub sizes-next : (s : State) (o : Operation Task) {call : HostCall} {rest : List HostCall}
    → IsLiveAs s o Running → o.work.calls ≡ call ∷ rest → AreFew (with_task o.number (one_more_done o.work rest) s)
sizes-next s o {rest} h calls = few-task s o (one_more_done o.work rest) h.live refl h.whole.sizes

pub sizes-undone : (s : State) (o : Operation Task) {call : HostCall}
    → IsLiveAs s o Cancelling → o.work.undo ≡ Some call → AreFew (with_task o.number (undone o.work) s)
sizes-undone s o h undo = few-task s o (undone o.work) h.live refl h.whole.sizes

pub sizes-cancelling : (s : State) (o : Operation Task) (moment : ℕ)
    → IsLiveAs s o Running → o.may_cancel ≡ true → AreFew (moved o.number Cancelling moment s)
sizes-cancelling s o moment h may = few-moved s o Cancelling moment h.live h.whole.sizes

pub sizes-cancelled : (s : State) (o : Operation Task) (moment : ℕ)
    → IsWhole s → live_at s.operations o.number ≡ Some o → AreFew (cancelled s o.number moment)
sizes-cancelled s o moment h live = few-cancelled s o moment live h.sizes

pub sizes-failed : (s : State) (o : Operation Task) (why : OpFault) (done moment : ℕ) → IsLiveAs s o Running → AreFew (failed s o why done moment)
sizes-failed s o why done moment h = few-failed s o why done moment h.live h.whole.sizes

pub sizes-succeeded : (s : State) (o : Operation Task) (moment : ℕ) → IsLiveAs s o Running → o.work.calls ≡ [] → AreFew (succeeded s o moment)
sizes-succeeded s o moment h none = few-succeeded s o moment h.whole h.live

pub sizes-telling : (s : State) (notices : List Untold) → IsWhole s → AreFew (telling notices s)
sizes-telling s notices h = few-telling notices s h.sizes

pub sizes-closed : (s : State) → IsWhole s → AreFew (record s { closed = true })
sizes-closed s h = record {
  tables = h.sizes.tables;
  rows = h.sizes.rows;
  notices = h.sizes.notices;
  few_notices = h.sizes.few_notices;
  from_one = h.sizes.from_one;
  last_number = h.sizes.last_number;
}
