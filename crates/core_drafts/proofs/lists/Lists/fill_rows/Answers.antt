use Rattle.std.proofs.Common.{◌≡◌, ap, sym, subst, ◌∙◌}
use Rattle.row_machine.specs.machine.Changes.{with_row}
use Rattle.row_readings.specs.Rising.{AreRising}
use Rattle.core_drafts.proofs.Risen.{rising-with, filled-more}
use Rattle.core_drafts.proofs.lists.Lists.fill_rows.Goals as goal

pub loop-row-preserved : goal.loop-row-preserved
loop-row-preserved c =
    let row = c.row-item.result in
    let old = c.loop-row.self.state in
    let step : c.fill_row.new.self.state ≡ with_row row old = c.in_ok-fill_row.ensures.state ∙ ap (λ r. with_row r old) c.in_ok-copy.ensures in
    record {
      state = filled-more old c.fill_row.new.self.state c.args.rows.now c.loop-row.row-index row c.loop-row-test.true c.row-item.is step ∙ c.loop-row.invariant.state;
      rises = subst AreRising (sym step) (rising-with row old c.loop-row.invariant.rises);
      backing = c.fill_row.ensures.backing ∙ c.loop-row.invariant.backing;
    }
