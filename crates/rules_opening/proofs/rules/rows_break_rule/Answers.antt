use Rattle.std.proofs.Common.{option_map}
use Rattle.row_machine.specs.opening.Opening.{broken_at}
use Rattle.rules_opening.specs.Rules.{row_rule}
use Rattle.rules_refusals.proofs.Saying.{refuses-here, free-next}
use Rattle.rules_opening.proofs.rules.rows_break_rule.Goals as goal

pub returns-in-Err : goal.returns-in-Err
returns-in-Err c =
    refuses-here (λ r. option_map (broken_at r) (row_rule c.args.rule c.args.view.now r)) c.args.rows.now c.loop-row.row-index c.row-item.result c.in-Err.why
    c.loop-row-test.true c.row-item.is c.loop-row.invariant c.in-Err.ensures

pub loop-row-preserved : goal.loop-row-preserved
loop-row-preserved c =
    free-next (λ r. option_map (broken_at r) (row_rule c.args.rule c.args.view.now r)) c.args.rows.now c.loop-row.row-index c.row-item.result
    c.loop-row-test.true c.row-item.is c.loop-row.invariant c.in_default.ensures
