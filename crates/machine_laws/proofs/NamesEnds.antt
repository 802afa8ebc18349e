-- Names after an operation ended without its rows: cancelled or failed; and after notices.
use Rattle.std.proofs.Common.{◌≡◌, ℕ, ◌+◌, ◌-◌, ◌^◌, ◌==◌, Bool, true, false, cond, ◌&&◌, nat_lt, Option, Some, None, List, [], ◌∷◌, refl, ◌∙◌}
use Rattle.plain_lists.specs.Rings.{ring_push}
use Rattle.plain_lists.proofs.EditLemmas.{map-changed, dropped-Puts}
use Rattle.size_values.specs.declared.kinds.Power.{Power}
use Rattle.size_values.specs.declared.kinds.Power.TheVariants.{Error}
use Rattle.operations.specs.declared.operation.Operation.{Operation}
use Rattle.operations.specs.declared.operation.OpFault.{OpFault}
use Rattle.operations.specs.declared.operation.OpFault.TheVariants as op_fault
use Rattle.operations.specs.declared.status.Status.{Status}
use Rattle.operations.specs.declared.status.Status.TheVariants as status
use Rattle.operations.specs.OperationTable.{OperationTable, has_number, live_at}
use Rattle.operations.specs.OperationTable as kept
use Rattle.reservations.specs.declared.books.Books.{Books}
use Rattle.records.specs.declared.notices.Notice.{Notice}
use Rattle.records.specs.declared.notices.Untold.{Untold}
use Rattle.row_machine.specs.machine.Task.{Task}
use Rattle.reservations.specs.declared.books.Hold.{Hold}
use Rattle.row_machine.specs.machine.State.{State, InstancePower}
use Rattle.row_machine.specs.machine.Rows.{is_power_of, power_names}
use Rattle.row_machine.specs.machine.Operations.{with_power, with_power_after, ended, returned, converted, cancelled, failed}
use Rattle.row_machine.specs.machine.Deeds.{breaks_instance}
use Rattle.row_machine.specs.shown.Notices.{kept_notices, push_notice, telling}
use Rattle.row_machine.specs.facts.Whole.{AreNamed}
use Rattle.machine_laws.proofs.NamesLive.{AreNamed-fewer}

-- ---- what names do not speak of

pub AreNamed-aside : (s : State) (held : List Hold) (books : Books) (notices : List Notice) (next : ℕ)
    → AreNamed s → AreNamed (record s { held = held; books = books; notices = notices; next_notice = next })
AreNamed-aside s held books notices next h = record {
  good = h.good;
  moments = h.moments;
  projects = h.projects;
  profiles = h.profiles;
  networks = h.networks;
  pools = h.pools;
  volumes = h.volumes;
  instances = h.instances;
  snapshots = h.snapshots;
  powers = h.powers;
  new_volumes = h.new_volumes;
  new_instances = h.new_instances;
  new_snapshots = h.new_snapshots;
}

AreNamed-notice : (n : Untold) (s : State) → AreNamed s → AreNamed (push_notice n s)
AreNamed-notice n s h = at (s.next_notice == 2 ^ 64 - 1) where
  pushed : State
  pushed = record s {
    notices = ring_push kept_notices (record { number = s.next_notice; moment = n.moment; project = n.project; body = n.body }) s.notices;
    next_notice = s.next_notice + 1;
  }

  at : (b : Bool) → AreNamed (cond b s pushed)
  at true = h
  at false = AreNamed-aside s s.held s.books pushed.notices pushed.next_notice h

pub AreNamed-telling : (notices : List Untold) (s : State) → AreNamed s → AreNamed (telling notices s)
AreNamed-telling [] s h = h
AreNamed-telling (n ∷ ns) s h = AreNamed-telling ns (push_notice n s) (AreNamed-notice n s h)

-- ---- statuses

-- another status of an instance leaves whose it is
pub AreNamed-power : (s : State) (project name : List ℕ) (power : Power) → AreNamed s → AreNamed (with_power s project name power)
AreNamed-power s project name power h = record {
  good = h.good;
  moments = h.moments;
  projects = h.projects;
  profiles = h.profiles;
  networks = h.networks;
  pools = h.pools;
  volumes = h.volumes;
  instances = h.instances;
  snapshots = h.snapshots;
  powers = map-changed power_names (is_power_of project name) (λ (p : InstancePower). record p { power = power }) s.powers (λ p is. refl) ∙ h.powers;
  new_volumes = h.new_volumes;
  new_instances = h.new_instances;
  new_snapshots = h.new_snapshots;
}

pub AreNamed-power_after : (s : State) (task : Task) (power : Option Power) → AreNamed s → AreNamed (with_power_after task power s)
AreNamed-power_after s task None h = h
AreNamed-power_after s task (Some power) h = AreNamed-power s task.project task.target.name power h

-- ---- ends

pub AreNamed-ended : (s : State) (o : Operation Task) (now : Status) (why : OpFault) (moment : ℕ)
    → live_at s.operations o.number ≡ Some o → AreNamed s → AreNamed (ended o.number now why moment s)
AreNamed-ended s o now why moment live h =
    AreNamed-fewer s (kept.ends o.number now why moment s.operations) o (dropped-Puts (has_number o.number) o s.operations.live live) h

pub AreNamed-returned : (number : ℕ) (s : State) → AreNamed s → AreNamed (returned number s)
AreNamed-returned number s h = AreNamed-aside s (returned number s).held (returned number s).books s.notices s.next_notice h

pub AreNamed-converted : (number : ℕ) (s : State) → AreNamed s → AreNamed (converted number s)
AreNamed-converted number s h = AreNamed-aside s (converted number s).held (converted number s).books s.notices s.next_notice h

pub AreNamed-cancelled : (s : State) (o : Operation Task) (moment : ℕ)
    → live_at s.operations o.number ≡ Some o → AreNamed s → AreNamed (cancelled s o.number moment)
unfolding cancelled
AreNamed-cancelled s o moment live h =
    AreNamed-returned o.number (ended o.number status.Cancelled op_fault.None moment s)
    (AreNamed-ended s o status.Cancelled op_fault.None moment live h)

pub AreNamed-failed : (s : State) (o : Operation Task) (why : OpFault) (done moment : ℕ)
    → live_at s.operations o.number ≡ Some o → AreNamed s → AreNamed (failed s o why done moment)
unfolding failed
AreNamed-failed s o why done moment live h = at (nat_lt 0 done && breaks_instance o.work.deed) where
  finished : (t : State) → live_at t.operations o.number ≡ Some o → AreNamed t → AreNamed (returned o.number (ended o.number status.Failure why moment t))
  finished t there names = AreNamed-returned o.number (ended o.number status.Failure why moment t) (AreNamed-ended t o status.Failure why moment there names)

  broken : State
  broken = with_power s o.work.project o.work.target.name Error

  at : (b : Bool) → AreNamed (returned o.number (ended o.number status.Failure why moment (cond b broken s)))
  at true = finished broken live (AreNamed-power s o.work.project o.work.target.name Error h)
  at false = finished s live h
