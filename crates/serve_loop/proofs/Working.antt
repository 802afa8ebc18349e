-- What a worker does at its post, from what its parts ensure.
use Rattle.std.proofs.Common.{◌≡◌, ◌≤◌, ◌<◌, ◌+◌, ℕ, Bool, [], ◌∷◌, refl}
use Rattle.size_values.specs.Moments.{moment_limit}
use Rattle.host_model.specs.declared.call.HostCall.{HostCall}
use Rattle.host_model.specs.declared.report.Report.{Report}
use Rattle.host_model.specs.Reports.{roots_after, CarriesCounts}
use Rattle.http_front.specs.Clocks.{Readings, Reads}
use Rattle.row_machine.specs.declared.events.Answer.{Answer}
use Rattle.row_machine.specs.declared.events.Event.TheVariants as event
use Rattle.gates.specs.serial_steps.specs.Steps.{Hosted}
use Rattle.gates.specs.serial_steps.proofs.Stepping.{has-cause}
use Rattle.gates.specs.Gates.{Seen, Walk}
use Rattle.gates.specs.History.{GateIdle, GateTurn, capped, idled_after}
use Rattle.gates.proofs.Walking.{walk-idle, walk-turn}
use Rattle.serve_loop.specs.Work.{Gets, GoesOn, WorkBy, worker_world}
use Rattle.serve_loop.specs.declared.worker.WorkerState.{WorkerState}
use Rattle.serve_loop.specs.declared.worker.WorkerState.TheVariants as post

-- a call was asked for
pub takes : {old new : Seen} {told told' : Readings} {moment : ℕ} {a : Answer} {p : WorkerState} (host : Hosted)
    → Reads told (moment ∷ []) told' → moment < moment_limit
    → GateTurn old.contents (event.Take moment) a new.contents
    → new.turned ≡ capped (old.turned + 1) → new.idled ≡ old.idled → Gets a p
    → Walk WorkBy old new (worker_world post.Asking host told) (worker_world p host told')
takes {old} {new} {told} {told'} {moment} {a} {p} host read early turn turned idled gets =
    walk-turn WorkBy (worker_world post.Asking host told) (worker_world p host told') turn turned idled (record {
      moment = moment;
      asks = refl;
      clock = record { read = read; early = early };
      host = refl;
      gets = gets;
    })

-- a call was made and reported of
pub reports : {old new : Seen} {told told' : Readings} {moment number : ℕ} {call : HostCall} {r : Report} {a : Answer}
    {p : WorkerState} {before after : Hosted}
    → after.roots ≡ roots_after r call before.roots → CarriesCounts r before.failures after.failures
    → before.failures ≤ after.failures → Reads told (moment ∷ []) told' → moment < moment_limit
    → GateTurn old.contents (event.Done number r moment) a new.contents
    → new.turned ≡ capped (old.turned + 1) → new.idled ≡ old.idled → GoesOn a p
    → Walk WorkBy old new (worker_world (post.Busy number call) before told) (worker_world p after told')
reports {old} {new} {told} {told'} {moment} {number} {call} {r} {a} {p} {before} {after} roots counts later read early
    turn turned idled goes =
    walk-turn WorkBy (worker_world (post.Busy number call) before told) (worker_world p after told') turn turned idled
    (record {
      report = r;
      moment = moment;
      tells = refl;
      roots = roots;
      counts = counts;
      cause = has-cause r before.failures after.failures counts;
      later = later;
      clock = record { read = read; early = early };
      goes_on = goes;
    })

-- nothing waited, and the gate idled
pub idles : {old new : Seen} {is_up : Bool} (host : Hosted) (told : Readings)
    → GateIdle is_up old.contents new.contents → new.turned ≡ old.turned → new.idled ≡ idled_after is_up old.idled
    → Walk WorkBy old new (worker_world post.Idling host told) (worker_world post.Asking host told)
idles host told idle turned idled =
    walk-idle WorkBy (worker_world post.Idling host told) (worker_world post.Asking host told) idle turned idled refl
