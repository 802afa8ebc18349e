use Rattle.std.proofs.Common.{map, ap, sym, subst, ◌∙◌, arith}
use Rattle.operations.specs.OperationTable.{kept_at}
use Rattle.row_machine.specs.machine.State.{State}
use Rattle.core_judging.specs.core_reports.specs.Jobs.{IsReported}
use Rattle.core_rows.specs.EstateView.{EstateView}
use Rattle.core_judging.specs.core_reports.specs.Waiting.{told_by}
use Rattle.core_judging.specs.core_totals.specs.Ends.{IsCounted}
use Rattle.core_judging.specs.core_totals.specs.Totals.{AreTotals}
use Rattle.core_rows.specs.Counted.{after_turn}
use Rattle.core_rows.proofs.KnownTotals.{turned-totals}
use Rattle.core_rows.proofs.Silent.{none-wait}
use Rattle.core_rows.proofs.estate.Estate.done_job.Goals as goal

pub take_report-turned-requires-clause-quiet : goal.take_report-turned-requires-clause-quiet
take_report-turned-requires-clause-quiet g c =
    none-wait _ c.self.inside.untold.items (ap (λ (k : EstateView). k.untold) c.self.view_is ∙ c.requires.quiet)

pub invariant_of-self : goal.invariant_of-self
invariant_of-self g c = record {
  whole = c.take_report-turned.ensures.turned.whole;
  silent = c.take_report-turned.ensures.turned.silent;
  settled = c.take_report-turned.ensures.log;
  room = omega (arith, c.self.invariant.room, c.take_report-turned.ensures.capacity);
  above = omega (arith, c.self.invariant.above, c.take_report-turned.ensures.greatest, c.take_report-turned.ensures.turned.next);
  totals = subst (AreTotals c.take_report-turned.new.draft.state)
      (ap (λ (t : State). after_turn c.take_report-turned.result (kept_at t.operations c.args.number) c.count-counted.result c.self.inside.totals) (sym c.view-2.ensures)
      ∙ sym c.follow_report.ensures)
      (turned-totals c.self.inside.draft.state c.take_report-turned.new.draft.state c.args.number c.args.report c.args.moment _ c.take_report-turned.result _ _
      c.self.inside.totals c.count-counted.result c.self.invariant.whole c.self.invariant.totals
      (subst (λ t. IsCounted t c.args.number c.count-counted.result) c.view.ensures c.count-counted.ensures)
      c.take_report-turned.ensures.turned.reported);
}

pub returns : goal.returns
returns g c =
    subst
    (λ (s : State). IsReported s c.args.number c.args.report c.args.moment c.take_report-turned.new.draft.state
    (map (told_by c.take_report-turned.new.draft.state.operations) c.take_report-turned.new.untold.items) c.take_report-turned.result
    (g.R.Keeper.store c.args.keeper.now) (g.R.Keeper.store c.take_report-turned.new.keeper))
    (ap (λ (k : EstateView). k.state) c.self.view_is) c.take_report-turned.ensures.turned.reported
