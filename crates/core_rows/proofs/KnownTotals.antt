-- What is known of projects after each event.
use Rattle.std.proofs.Common.{◌≡◌, ℕ, ◌+◌, ◌<◌, ◌^◌, Bool, true, false, cond, Option, Some, None, List, refl, sym, ap, subst, arith}
use Rattle.std.specs.Prelude.{IfSome}
use Rattle.std.specs.Option.{option_map_or}
use Rattle.size_values.specs.Amounts.{part}
use Rattle.size_values.specs.declared.amounts.Part.{Part}
use Rattle.size_values.specs.declared.amounts.Amounts.{Amounts}
use Rattle.host_model.specs.declared.call.HostCall.{HostCall}
use Rattle.host_model.specs.declared.report.Report.{Report}
use Rattle.operations.specs.declared.operation.Operation.{Operation}
use Rattle.operations.specs.declared.status.Status.TheVariants as status
use Rattle.operations.specs.OperationTable.{live_at, kept_at}
use Rattle.operations.specs.Statuses.{is_pending}
use Rattle.record_keeper.specs.Store.{Store}
use Rattle.records.specs.declared.notices.Untold.{Untold}
use Rattle.row_machine.specs.declared.events.Answer.TheVariants as answer
use Rattle.row_machine.specs.machine.State.{State}
use Rattle.row_machine.specs.machine.Task.{Task}
use Rattle.row_machine.specs.machine.Operations.{handing_out, entered, project_of_task}
use Rattle.row_machine.specs.shown.Notices.{telling}
use Rattle.row_machine.specs.facts.Whole.{IsWhole}
use Rattle.machine_laws.proofs.Base.{first-live}
use Rattle.machine_laws.proofs.SharesCores.{cores-moved, cores-taken}
use Rattle.core_judging.specs.core_reports.specs.Jobs.{IsReported, answer_of}
use Rattle.core_judging.specs.core_reports.specs.Turns.{IsBegun}
use Rattle.core_judging.specs.core_reports.specs.declared.jobs.Turned.{Turned}
use Rattle.core_judging.specs.core_reports.specs.declared.jobs.Turned.TheVariants as turned
use Rattle.core_judging.specs.core_totals.specs.declared.ends.Counted.{Counted}
use Rattle.core_judging.specs.core_totals.specs.declared.amount_totals.Total.{Total}
use Rattle.core_judging.specs.core_totals.specs.declared.pool_totals.PoolTotal.{PoolTotal}
use Rattle.core_judging.specs.core_totals.specs.declared.totals.Totals.{Totals}
use Rattle.row_machine.specs.machine.Usage.{usage_of, used_on}
use Rattle.row_readings.specs.Footprints.{share_footprint}
use Rattle.row_readings.specs.declared.amounts.Footprint.{Footprint}
use Rattle.core_judging.specs.core_totals.specs.Totals.{AreAmounts, ArePools, AreTotals, known, known_on, grown}
use Rattle.core_judging.specs.core_totals.proofs.Few.{few-used, few-on}
use Rattle.core_judging.specs.core_totals.specs.Ends.{held_given_back, IsCounted}
use Rattle.core_judging.specs.core_totals.proofs.Usage.{usage-cores, usage-closed, cancelled-loses}
use Rattle.core_judging.specs.core_totals.proofs.Told.{totals-same}
use Rattle.core_judging.specs.core_totals.proofs.Shares.{totals-held_back, totals-entered}
use Rattle.core_judging.specs.core_totals.proofs.Turns.{Comes, step-comes, still-totals, ended-totals}
use Rattle.core_rows.specs.Cancels.{stopped, waits}
use Rattle.core_rows.specs.Counted.{after_turn, counted_out}

-- after a report was taken
pub turned-totals : (s s' : State) (n : ℕ) (r : Report) (moment : ℕ) (untold : List Untold) (result : Turned) (store store' : Store)
    (totals : Totals) (counted : Counted) → IsWhole s → AreTotals s totals → IsCounted s n counted
    → IsReported s n r moment s' untold result store store' → AreTotals s' (after_turn result (kept_at s'.operations n) counted totals)
turned-totals s s' n r moment untold result store store' totals counted h are is reported =
    by result (step-comes s n r moment reported.outcome _ h reported.is) where
      by : (x : Turned) → Comes s n (answer_of n x) (telling untold s') → AreTotals s' (after_turn x (kept_at s'.operations n) counted totals)
      by turned.Stray comes = still-totals s s' n untold totals counted h are is (answer.Stray n) (λ m e. cc) comes
      by (turned.Next call) comes = still-totals s s' n untold totals counted h are is (answer.Job n call) (λ m e. cc) comes
      by turned.Ended comes = ended-totals s s' n untold totals counted h are is comes

-- after a first call was handed out
pub begun-totals : (s s' : State) (n moment : ℕ) (call : HostCall) (totals : Totals) → IsWhole s → IsBegun s n moment call s'
    → AreTotals s totals → AreTotals s' totals
begun-totals s s' n moment call totals h begun are =
    subst (λ t. AreTotals t totals) (sym begun.made)
    (totals-same s _ totals are
    (usage-cores s _ (cores-taken begun.of status.Running moment (handing_out begun.of.work begun.rest) s.operations (first-live s begun.of h begun.first).0 refl)))

-- after the end of the server's work
pub closed-totals : (s s' : State) (totals : Totals) → s' ≡ record s { closed = true } → AreTotals s totals → AreTotals s' totals
closed-totals s s' totals made are =
    subst (λ t. AreTotals t totals) (sym made) (totals-same s (record s { closed = true }) totals are (usage-closed s))

-- where nothing was done
pub back-totals : (s s' : State) (totals : Totals) → s' ≡ s → AreTotals s totals → AreTotals s' totals
back-totals s s' totals back are = subst (λ t. AreTotals t totals) (sym back) are

-- after an entry
pub begin-totals : (s s' : State) (task : Task) (moment : ℕ) (totals : Totals) (project : List ℕ) (share : Footprint)
    → s' ≡ entered s task moment → project ≡ project_of_task task → share ≡ share_footprint s task → AreTotals s totals
    → AreTotals s' (grown project share.amounts share.on totals)
begin-totals s s' task moment totals project share made counts holds are =
    subst (λ t. AreTotals t (grown project share.amounts share.on totals)) (sym made)
    (subst (λ p. AreTotals (entered s task moment) (grown p share.amounts share.on totals)) (sym counts)
    (subst (λ (a : Footprint). AreTotals (entered s task moment) (grown (project_of_task task) a.amounts a.on totals)) (sym holds)
    (totals-entered s task moment totals are)))

-- after a cancel
pub stopped-totals : (s s' : State) (n moment : ℕ) (totals : Totals) → IsWhole s → s' ≡ stopped s n moment (waits s n)
    → AreTotals s totals → AreTotals s' (counted_out s n totals)
stopped-totals s s' n moment totals h made are = at (live_at s.operations n) refl made where
  goes-on : s' ≡ stopped s n moment false → AreTotals s' totals
  goes-on is = subst (λ t. AreTotals t totals) (sym is)
      (totals-same s _ totals are (usage-cores s _ (cores-moved n status.Cancelling moment s.operations)))

  ends : (o : Operation Task) → live_at s.operations n ≡ Some o → s' ≡ stopped s n moment true
      → AreTotals s' (held_given_back s n o.work totals)
  ends o live is = subst (λ t. AreTotals t (held_given_back s n o.work totals)) (sym is)
      (totals-held_back s (stopped s n moment true) o (cancelled-loses s n moment o live) totals n are h live)

  by : (o : Operation Task) → live_at s.operations n ≡ Some o → (b : Bool) → s' ≡ stopped s n moment b
      → AreTotals s' (cond b (held_given_back s n o.work totals) totals)
  by o live true is = ends o live is
  by o live false is = goes-on is

  at : (found : Option (Operation Task)) → live_at s.operations n ≡ found
      → s' ≡ stopped s n moment (option_map_or (λ (o : Operation Task). is_pending o.status) found false)
      → AreTotals s' (option_map_or (λ (o : Operation Task). cond (is_pending o.status) (held_given_back s n o.work totals) totals) found totals)
  at None live is = goes-on is
  at (Some o) live is = by o live (is_pending o.status) is

-- a share can be added to what is known
pub roomy-amounts : (s : State) (totals : List Total) (project : List ℕ) (share : Amounts) → IsWhole s → AreAmounts s totals
    → ((k : Part) → part k share < 2 ^ 80) → IfSome (known totals project) (λ a. (k : Part) → part k a + part k share < 2 ^ 128)
roomy-amounts s totals project share h are small = at (known totals project) (are.known project) where
  at : (a : Option Amounts) → IfSome a (λ x. x ≡ usage_of s project) → IfSome a (λ x. (k : Part) → part k x + part k share < 2 ^ 128)
  at None is = tt
  at (Some a) is = λ k. omega (arith, few-used s project k h, ap (part k) is, small k)

-- and so can its part
pub roomy-pools : (s : State) (totals : List PoolTotal) (project pool : List ℕ) (disk : ℕ) → IsWhole s → ArePools s totals
    → disk < 2 ^ 80 → IfSome (known_on totals project pool) (λ used. used + disk < 2 ^ 128)
roomy-pools s totals project pool disk h are small = at (known_on totals project pool) (are.known project pool) where
  at : (u : Option ℕ) → IfSome u (λ n. n ≡ used_on s project pool) → IfSome u (λ n. n + disk < 2 ^ 128)
  at None is = tt
  at (Some u) is = omega (arith, few-on s project pool h, is, small)
