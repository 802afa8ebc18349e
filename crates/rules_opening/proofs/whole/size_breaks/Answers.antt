use Rattle.std.proofs.Common.{option_map}
use Rattle.records.specs.declared.refusals.Rule.TheVariants.{C2}
use Rattle.row_machine.specs.machine.TableRules.{too_large}
use Rattle.row_machine.specs.opening.Opening.{broken_at}
use Rattle.rules_refusals.proofs.Saying.{refuses-here, free-next}
use Rattle.rules_opening.proofs.whole.size_breaks.Goals as goal

pub returns-in-Err : goal.returns-in-Err
returns-in-Err c =
    refuses-here (λ r. option_map (λ why. broken_at r C2) (too_large r)) c.args.rows.now c.loop-row.row-index c.row-item.result c.in-Err.why
    c.loop-row-test.true c.row-item.is c.loop-row.invariant c.in-Err.ensures

pub loop-row-preserved : goal.loop-row-preserved
loop-row-preserved c =
    free-next (λ r. option_map (λ why. broken_at r C2) (too_large r)) c.args.rows.now c.loop-row.row-index c.row-item.result
    c.loop-row-test.true c.row-item.is c.loop-row.invariant c.in_default.ensures
