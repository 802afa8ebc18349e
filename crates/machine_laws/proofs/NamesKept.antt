-- Fact 1 after each kind of change: names.
use Rattle.std.proofs.Common.{◌≡◌, ℕ, true, Some, List, [], ◌∷◌, refl}
use Rattle.plain_lists.specs.Members.{Each}
use Rattle.host_model.specs.declared.call.HostCall.{HostCall}
use Rattle.operations.specs.declared.operation.Operation.{Operation}
use Rattle.operations.specs.declared.operation.OpFault.{OpFault}
use Rattle.operations.specs.declared.status.Status.TheVariants.{Running, Cancelling}
use Rattle.operations.specs.OperationTable.{live_at}
use Rattle.records.specs.declared.commands.Command.{Command}
use Rattle.records.specs.declared.notices.Untold.{Untold}
use Rattle.row_codec.specs.Rows.{HasGoodKey, HasMoments}
use Rattle.row_machine.specs.declared.changes.RowChange.{RowChange}
use Rattle.row_machine.specs.machine.Task.{Task}
use Rattle.row_machine.specs.machine.State.{State}
use Rattle.row_machine.specs.machine.Changes.{applied, rows_put}
use Rattle.row_machine.specs.machine.Plans.{changes, starts}
use Rattle.row_machine.specs.machine.Operations.{with_task, moved, handing_out, one_more_done, undone, entered, succeeded, failed, cancelled}
use Rattle.row_machine.specs.shown.Notices.{telling}
use Rattle.row_machine.specs.machine.Step.{first_pending}
use Rattle.row_machine.specs.facts.Whole.{IsWhole, AreNamed}
use Rattle.plain_lists.proofs.Elements.{Each-map}
use Rattle.machine_laws.proofs.Cases.{IsAccepted, IsLiveAs}
use Rattle.machine_laws.proofs.AtOnceCases.{at_once}
use Rattle.machine_laws.proofs.BeginsCases.{begins}
use Rattle.machine_laws.proofs.NamesLive.{AreNamed-task, AreNamed-moved, moved-live}
use Rattle.machine_laws.proofs.Base.{first-live}
use Rattle.machine_laws.proofs.NamesApplied.{stays-named, AreNamed-applied}
use Rattle.machine_laws.specs.Records.{StaysNamed}
use Rattle.machine_laws.proofs.NamesEnds.{AreNamed-telling, AreNamed-cancelled, AreNamed-failed}
use Rattle.machine_laws.proofs.NamesBegin.{claimable, AreNamed-entered}
use Rattle.machine_laws.proofs.NamesAtOnce.{puts-ready}
use Rattle.machine_laws.proofs.NamesDeeds.{AreNamed-succeeded}

pub names-changes : {s : State} {c : Command} {moment : ℕ} {cs : List RowChange} → IsAccepted s c moment (changes cs) → AreNamed (applied s cs)
names-changes {s} {cs} h = AreNamed-applied s cs h.whole.names (puts-ready s cs h.whole.names (at_once h))

pub names-entered : {s : State} {c : Command} {moment : ℕ} {task : Task} → IsAccepted s c moment (starts task) → AreNamed (entered s task moment)
names-entered {s} {moment} {task} h = AreNamed-entered s task moment (claimable s task h.whole.names (begins h)) h.whole.names

pub names-taken : (s : State) (o : Operation Task) (moment : ℕ) {call : HostCall} {rest : List HostCall}
    → IsWhole s → first_pending s ≡ Some o → o.work.calls ≡ call ∷ rest
    → AreNamed (with_task o.number (handing_out o.work rest) (moved o.number Running moment s))
names-taken s o moment {rest} h first calls =
    let live = (first-live s o h first).0 in
    AreNamed-task (moved o.number Running moment s) (record o { status = Running; updated = moment }) (handing_out o.work rest)
    (moved-live s o Running moment live) refl refl (AreNamed-moved s o Running moment live h.names)

pub names-next : (s : State) (o : Operation Task) {call : HostCall} {rest : List HostCall}
    → IsLiveAs s o Running → o.work.calls ≡ call ∷ rest → AreNamed (with_task o.number (one_more_done o.work rest) s)
names-next s o {rest} h calls = AreNamed-task s o (one_more_done o.work rest) h.live refl refl h.whole.names

pub names-undone : (s : State) (o : Operation Task) {call : HostCall}
    → IsLiveAs s o Cancelling → o.work.undo ≡ Some call → AreNamed (with_task o.number (undone o.work) s)
names-undone s o h undo = AreNamed-task s o (undone o.work) h.live refl refl h.whole.names

pub names-cancelling : (s : State) (o : Operation Task) (moment : ℕ)
    → IsLiveAs s o Running → o.may_cancel ≡ true → AreNamed (moved o.number Cancelling moment s)
names-cancelling s o moment h may = AreNamed-moved s o Cancelling moment h.live h.whole.names

pub names-cancelled : (s : State) (o : Operation Task) (moment : ℕ)
    → IsWhole s → live_at s.operations o.number ≡ Some o → AreNamed (cancelled s o.number moment)
names-cancelled s o moment h live = AreNamed-cancelled s o moment live h.names

pub names-failed : (s : State) (o : Operation Task) (why : OpFault) (done moment : ℕ) → IsLiveAs s o Running → AreNamed (failed s o why done moment)
names-failed s o why done moment h = AreNamed-failed s o why done moment h.live h.whole.names

pub names-succeeded : (s : State) (o : Operation Task) (moment : ℕ) → IsLiveAs s o Running → o.work.calls ≡ [] → AreNamed (succeeded s o moment)
names-succeeded s o moment h none = AreNamed-succeeded s o moment h.whole h.live

pub names-telling : (s : State) (notices : List Untold) → IsWhole s → AreNamed (telling notices s)
names-telling s notices h = AreNamed-telling notices s h.names

pub names-closed : (s : State) → IsWhole s → AreNamed (record s { closed = true })
names-closed s h = record {
  good = h.names.good;
  moments = h.names.moments;
  projects = h.names.projects;
  profiles = h.names.profiles;
  networks = h.names.networks;
  pools = h.names.pools;
  volumes = h.names.volumes;
  instances = h.names.instances;
  snapshots = h.names.snapshots;
  powers = h.names.powers;
  new_volumes = h.names.new_volumes;
  new_instances = h.names.new_instances;
  new_snapshots = h.names.new_snapshots;
}

-- ---- what is put has good names and moments, and names hold after each single change

pub puts-named : {s : State} {c : Command} {moment : ℕ} {cs : List RowChange} → IsAccepted s c moment (changes cs)
    → Each HasGoodKey (rows_put cs) × Each HasMoments (rows_put cs)
puts-named {s} {cs} h =
    let ready = puts-ready s cs h.whole.names (at_once h) in
    (Each-map (λ r is. is.good) ready, Each-map (λ r is. is.timely) ready)

pub names-stay : {s : State} {c : Command} {moment : ℕ} {cs : List RowChange} → IsAccepted s c moment (changes cs) → StaysNamed s cs
names-stay {s} {cs} h = stays-named s cs h.whole.names (puts-ready s cs h.whole.names (at_once h))
