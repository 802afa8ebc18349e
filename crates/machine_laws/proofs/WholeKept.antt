-- All ten facts after each kind of change.
use Rattle.std.proofs.Common.{◌≡◌, ℕ, ◌<◌, true, Some, List, [], ◌∷◌, refl}
use Rattle.size_values.specs.Moments.{moment_limit}
use Rattle.host_model.specs.declared.call.HostCall.{HostCall}
use Rattle.operations.specs.declared.operation.Operation.{Operation}
use Rattle.operations.specs.declared.operation.OpFault.{OpFault}
use Rattle.operations.specs.declared.status.Status.TheVariants.{Running, Cancelling}
use Rattle.operations.specs.OperationTable.{live_at}
use Rattle.records.specs.declared.commands.Command.{Command}
use Rattle.records.specs.declared.notices.Untold.{Untold}
use Rattle.row_machine.specs.declared.changes.RowChange.{RowChange}
use Rattle.row_machine.specs.machine.Task.{Task}
use Rattle.row_machine.specs.machine.State.{State}
use Rattle.row_machine.specs.machine.Changes.{applied}
use Rattle.row_machine.specs.machine.Plans.{changes, starts}
use Rattle.row_machine.specs.shown.Notices.{telling}
use Rattle.row_machine.specs.machine.Step.{first_pending}
use Rattle.row_machine.specs.machine.Operations.{entered, with_task, moved, handing_out, one_more_done, undone, cancelled, failed, succeeded}
use Rattle.row_machine.specs.facts.Whole.{IsWhole}
use Rattle.machine_laws.proofs.Cases.{IsAccepted, IsLiveAs}
use Rattle.machine_laws.proofs.ReferencesCore.{references-core}
use Rattle.machine_laws.proofs.DefaultsAside.{defaults-same}
use Rattle.machine_laws.proofs.NamesKept.{names-changes, names-entered, names-taken, names-next, names-undone, names-cancelling, names-cancelled, names-failed, names-succeeded, names-telling, names-closed}
use Rattle.machine_laws.proofs.ReferencesKept.{references-changes, references-entered, references-taken, references-next, references-undone, references-cancelling, references-cancelled, references-failed, references-succeeded, references-telling}
use Rattle.machine_laws.proofs.DefaultsKept.{defaults-changes, defaults-entered, defaults-taken, defaults-next, defaults-undone, defaults-cancelling, defaults-cancelled, defaults-failed, defaults-succeeded, defaults-telling}
use Rattle.machine_laws.proofs.SettingsKept.{settings-changes, settings-entered, settings-taken, settings-next, settings-undone, settings-cancelling, settings-cancelled, settings-failed, settings-succeeded, settings-telling, settings-closed}
use Rattle.machine_laws.proofs.OperationsKept.{operations-changes, operations-entered, operations-taken, operations-next, operations-undone, operations-cancelling, operations-cancelled, operations-failed, operations-succeeded, operations-telling, operations-closed}
use Rattle.machine_laws.proofs.UnderWayKept.{under_way-changes, under_way-entered, under_way-taken, under_way-next, under_way-undone, under_way-cancelling, under_way-cancelled, under_way-failed, under_way-succeeded, under_way-telling, under_way-closed}
use Rattle.machine_laws.proofs.SharesKept.{shares-changes, shares-entered, shares-taken, shares-next, shares-undone, shares-cancelling, shares-cancelled, shares-failed, shares-succeeded, shares-telling, shares-closed}
use Rattle.machine_laws.proofs.LimitsKept.{limits-changes, limits-entered, limits-taken, limits-next, limits-undone, limits-cancelling, limits-cancelled, limits-failed, limits-succeeded, limits-telling, limits-closed}
use Rattle.machine_laws.proofs.BooksKept.{books-changes, books-entered, books-taken, books-next, books-undone, books-cancelling, books-cancelled, books-failed, books-succeeded, books-telling, books-closed}
use Rattle.machine_laws.proofs.SizesKept.{sizes-changes, sizes-entered, sizes-taken, sizes-next, sizes-undone, sizes-cancelling, sizes-cancelled, sizes-failed, sizes-succeeded, sizes-telling, sizes-closed}
use Rattle.machine_laws.proofs.ReferencesCore.{references-core}
use Rattle.machine_laws.proofs.DefaultsAside.{defaults-same}

pub whole-changes : {s : State} {c : Command} {moment : ℕ} {cs : List RowChange} → IsAccepted s c moment (changes cs) → IsWhole (applied s cs)
whole-changes h = record {
  names = names-changes h;
  references = references-changes h;
  defaults = defaults-changes h;
  settings = settings-changes h;
  operations = operations-changes h;
  under_way = under_way-changes h;
  shares = shares-changes h;
  limits = limits-changes h;
  books = books-changes h;
  sizes = sizes-changes h;
}

pub whole-entered : {s : State} {c : Command} {moment : ℕ} {task : Task} → IsAccepted s c moment (starts task) → IsWhole (entered s task moment)
whole-entered h = record {
  names = names-entered h;
  references = references-entered h;
  defaults = defaults-entered h;
  settings = settings-entered h;
  operations = operations-entered h;
  under_way = under_way-entered h;
  shares = shares-entered h;
  limits = limits-entered h;
  books = books-entered h;
  sizes = sizes-entered h;
}

pub whole-taken : (s : State) (o : Operation Task) (moment : ℕ) {call : HostCall} {rest : List HostCall} → moment < moment_limit → IsWhole s → first_pending s ≡ Some o
    → o.work.calls ≡ call ∷ rest → IsWhole (with_task o.number (handing_out o.work rest) (moved o.number Running moment s))
whole-taken s o moment early h first calls = record {
  names = names-taken s o moment h first calls;
  references = references-taken s o moment h first calls;
  defaults = defaults-taken s o moment h first calls;
  settings = settings-taken s o moment h first calls;
  operations = operations-taken s o moment early h first calls;
  under_way = under_way-taken s o moment h first calls;
  shares = shares-taken s o moment h first calls;
  limits = limits-taken s o moment h first calls;
  books = books-taken s o moment h first calls;
  sizes = sizes-taken s o moment h first calls;
}

pub whole-next : (s : State) (o : Operation Task) {call : HostCall} {rest : List HostCall} → IsLiveAs s o Running → o.work.calls ≡ call ∷ rest
    → IsWhole (with_task o.number (one_more_done o.work rest) s)
whole-next s o l calls = record {
  names = names-next s o l calls;
  references = references-next s o l calls;
  defaults = defaults-next s o l calls;
  settings = settings-next s o l calls;
  operations = operations-next s o l calls;
  under_way = under_way-next s o l calls;
  shares = shares-next s o l calls;
  limits = limits-next s o l calls;
  books = books-next s o l calls;
  sizes = sizes-next s o l calls;
}

pub whole-undone : (s : State) (o : Operation Task) {call : HostCall} → IsLiveAs s o Cancelling → o.work.undo ≡ Some call → IsWhole (with_task o.number (undone o.work) s)
whole-undone s o l undo = record {
  names = names-undone s o l undo;
  references = references-undone s o l undo;
  defaults = defaults-undone s o l undo;
  settings = settings-undone s o l undo;
  operations = operations-undone s o l undo;
  under_way = under_way-undone s o l undo;
  shares = shares-undone s o l undo;
  limits = limits-undone s o l undo;
  books = books-undone s o l undo;
  sizes = sizes-undone s o l undo;
}

pub whole-cancelling : (s : State) (o : Operation Task) (moment : ℕ) → moment < moment_limit → IsLiveAs s o Running → o.may_cancel ≡ true
    → IsWhole (moved o.number Cancelling moment s)
whole-cancelling s o moment early l may = record {
  names = names-cancelling s o moment l may;
  references = references-cancelling s o moment l may;
  defaults = defaults-cancelling s o moment l may;
  settings = settings-cancelling s o moment l may;
  operations = operations-cancelling s o moment early l may;
  under_way = under_way-cancelling s o moment l may;
  shares = shares-cancelling s o moment l may;
  limits = limits-cancelling s o moment l may;
  books = books-cancelling s o moment l may;
  sizes = sizes-cancelling s o moment l may;
}

pub whole-cancelled : (s : State) (o : Operation Task) (moment : ℕ) → moment < moment_limit → IsWhole s → live_at s.operations o.number ≡ Some o
    → IsWhole (cancelled s o.number moment)
whole-cancelled s o moment early h live = record {
  names = names-cancelled s o moment h live;
  references = references-cancelled s o moment h live;
  defaults = defaults-cancelled s o moment h live;
  settings = settings-cancelled s o moment h live;
  operations = operations-cancelled s o moment early h live;
  under_way = under_way-cancelled s o moment h live;
  shares = shares-cancelled s o moment h live;
  limits = limits-cancelled s o moment h live;
  books = books-cancelled s o moment h live;
  sizes = sizes-cancelled s o moment h live;
}

pub whole-failed : (s : State) (o : Operation Task) (why : OpFault) (done moment : ℕ) → moment < moment_limit → IsLiveAs s o Running
    → IsWhole (failed s o why done moment)
whole-failed s o why done moment early l = record {
  names = names-failed s o why done moment l;
  references = references-failed s o why done moment l;
  defaults = defaults-failed s o why done moment l;
  settings = settings-failed s o why done moment l;
  operations = operations-failed s o why done moment early l;
  under_way = under_way-failed s o why done moment l;
  shares = shares-failed s o why done moment l;
  limits = limits-failed s o why done moment l;
  books = books-failed s o why done moment l;
  sizes = sizes-failed s o why done moment l;
}

pub whole-succeeded : (s : State) (o : Operation Task) (moment : ℕ) → moment < moment_limit → IsLiveAs s o Running → o.work.calls ≡ []
    → IsWhole (succeeded s o moment)
whole-succeeded s o moment early l none = record {
  names = names-succeeded s o moment l none;
  references = references-succeeded s o moment l none;
  defaults = defaults-succeeded s o moment l none;
  settings = settings-succeeded s o moment l none;
  operations = operations-succeeded s o moment early l none;
  under_way = under_way-succeeded s o moment l none;
  shares = shares-succeeded s o moment l none;
  limits = limits-succeeded s o moment l none;
  books = books-succeeded s o moment l none;
  sizes = sizes-succeeded s o moment l none;
}

pub whole-telling : (s : State) (notices : List Untold) → IsWhole s → IsWhole (telling notices s)
whole-telling s notices h = record {
  names = names-telling s notices h;
  references = references-telling s notices h;
  defaults = defaults-telling s notices h;
  settings = settings-telling s notices h;
  operations = operations-telling s notices h;
  under_way = under_way-telling s notices h;
  shares = shares-telling s notices h;
  limits = limits-telling s notices h;
  books = books-telling s notices h;
  sizes = sizes-telling s notices h;
}

pub whole-closed : (s : State) → IsWhole s → IsWhole (record s { closed = true })
whole-closed s h = record {
  names = names-closed s h;
  references = references-core s (record s { closed = true }) refl h.references;
  defaults = defaults-same refl refl h.defaults;
  settings = settings-closed s h;
  operations = operations-closed s h;
  under_way = under_way-closed s h;
  shares = shares-closed s h;
  limits = limits-closed s h;
  books = books-closed s h;
  sizes = sizes-closed s h;
}
