-- Looks, the work of a worker, and the close, as steps of the machine.
use Rattle.std.proofs.Common.{◌≡◌, ℕ, Bool, true, cond, List, [], ◌∷◌, Option, Some, None, refl, ap, sym, subst, ◌∙◌}
use Rattle.std.specs.Option.{is_some, option_map}
use Rattle.host_model.specs.declared.call.HostCall.{HostCall}
use Rattle.host_model.specs.declared.report.Report.{Report}
use Rattle.operations.specs.declared.operation.Operation.{Operation}
use Rattle.operations.specs.declared.status.Status.TheVariants.{Running}
use Rattle.operations.specs.OperationTable.{live_at}
use Rattle.size_values.specs.declared.entry.Entry.{Entry}
use Rattle.record_keeper.specs.Store.{Store}
use Rattle.records.specs.declared.notices.Untold.{Untold}
use Rattle.row_machine.specs.declared.events.Answer.TheVariants as answer
use Rattle.row_machine.specs.declared.events.Event.TheVariants as event
use Rattle.row_machine.specs.machine.Accept.{After, and_then}
use Rattle.row_machine.specs.machine.State.{State}
use Rattle.row_machine.specs.machine.Step.{well, step, first_pending, handed_out, taken}
use Rattle.row_machine.specs.machine.Task.{Task}
use Rattle.row_machine.specs.machine.Operations.{handing_out, moved, with_task}
use Rattle.row_machine.specs.opening.Records.{records_of}
use Rattle.row_machine.specs.shown.Notices.{operation_notice, telling}
use Rattle.machine_laws.proofs.BooksSteps.{telling-keeps}
use Rattle.core_instances.specs.core_reports.specs.Jobs.{IsReported, IsTaken, answer_of}
use Rattle.core_instances.specs.core_reports.specs.declared.jobs.Turned.{Turned}
use Rattle.core_turns.specs.Turns.{Comes}
use Rattle.core_turns.proofs.Turning.{still-comes}

-- ---- a look

pub look-comes : (s : State) (number : ℕ) (live : Bool) (untold : List Untold) (store : Store) → is_some (live_at s.operations number) ≡ live → untold ≡ []
    → Comes s store (event.Look number) (cond live (answer.NotYet number) (answer.Ended number)) s untold store
unfolding step
look-comes s number live untold store is none =
    still-comes untold store none refl (ap (λ b. Some (and_then (cond b (answer.NotYet number) (answer.Ended number)) s)) is)

-- ---- a worker asks for a call

-- what is told changes no row
records-told : (ns : List Untold) (s : State) → records_of (telling ns s) ≡ records_of s
unfolding records_of
records-told ns s = telling-keeps (λ t. records_of t ≡ records_of s) (λ t some next e. e) ns s refl

-- nor does a call that is handed out
records-handed : (s : State) (o : Operation Task) (moment : ℕ) (calls : List HostCall) → records_of (handed_out s o moment calls).state ≡ records_of s
unfolding records_of
records-handed s o moment [] = refl
records-handed s o moment (call ∷ rest) =
    let t = with_task o.number (handing_out o.work rest) (moved o.number Running moment s) in
    records-told (operation_notice t o.number moment) t

records-taken : (s : State) (moment : ℕ) (found : Option (Operation Task)) → records_of (taken s moment found).state ≡ records_of s
records-taken s moment None = refl
records-taken s moment (Some o) = records-handed s o moment o.work.calls

-- the records of a state that a step may come to
abbrev records_after : State → Option After → List Entry
records_after s None = records_of s
records_after s (Some a) = records_of a.state

take-records : (s : State) (moment : ℕ) → records_after s (step s (event.Take moment) well) ≡ records_of s
unfolding step
take-records s moment = records-taken s moment (first_pending s)

pub job-comes : (s : State) (moment op : ℕ) (call : HostCall) (s' : State) (untold : List Untold) (store : Store)
    → IsTaken s moment (Some (op, call)) s' untold → Comes s store (event.Take moment) (answer.Job op call) s' untold store
job-comes s moment op call s' untold store is = record {
  outcome = well;
  is = is;
  stored = refl;
  caused = refl;
  kept = λ start told. told ∙ ap (λ rs. option_map (λ _. rs) start) (sym same);
} where
  same : records_of s' ≡ records_of s
  same = sym (records-told untold s') ∙ ap (records_after s) (sym is) ∙ take-records s moment

-- where none waits, nothing changes
pub no-job-comes : (s : State) (moment : ℕ) (s' : State) (untold : List Untold) (store : Store) → IsTaken s moment None s' untold
    → Comes s store (event.Take moment) (cond s'.closed answer.Closed answer.NoJob) s' untold store
unfolding step
no-job-comes s moment s' untold store is =
    subst (λ t. Comes t store (event.Take moment) (cond s'.closed answer.Closed answer.NoJob) s' untold store) is.1
    (still-comes untold store is.2 refl
    (ap (λ found. Some (taken s' moment found)) (ap first_pending is.1 ∙ is.0)))

-- ---- a worker reports of a call

pub report-comes : {s s' : State} {op : ℕ} {r : Report} {moment : ℕ} {untold : List Untold} {result : Turned} {store store' : Store}
    → IsReported s op r moment s' untold result store store' → Comes s store (event.Done op r moment) (answer_of op result) s' untold store'
report-comes f = record { outcome = f.outcome; is = f.is; stored = f.stored; caused = f.caused; kept = f.kept }

-- ---- the close

pub close-comes : (s s' : State) (untold : List Untold) (store : Store) → s' ≡ record s { closed = true } → untold ≡ []
    → Comes s store event.Close answer.Closed s' untold store
unfolding step records_of
close-comes s s' untold store closed none = record {
  outcome = well;
  is = ap (λ t. Some (and_then answer.Closed t)) (sym closed) ∙ ap (λ ns. Some (and_then answer.Closed (telling ns s'))) (sym none);
  stored = refl;
  caused = refl;
  kept = λ start told. told ∙ ap (λ t. option_map (λ _. records_of t) start) (sym closed);
}
