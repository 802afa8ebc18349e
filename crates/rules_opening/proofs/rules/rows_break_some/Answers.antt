use Rattle.row_machine.specs.opening.Opening.{row_breaks}
use Rattle.rules_opening.specs.Rules.{row_rule}
use Rattle.rules_opening.proofs.Steps.{refuses-at, free-at}
use Rattle.rules_opening.proofs.rules.rows_break_some.Goals as goal

pub returns-in-Err : goal.returns-in-Err
returns-in-Err c =
    refuses-at (λ rule. row_breaks c.args.view.now c.args.rows.now (row_rule rule)) c.args.rules.now c.loop-rule.rule-index _
    c.loop-rule-test.true c.loop-rule.invariant c.in-Err.why c.in-Err.ensures

pub loop-rule-preserved : goal.loop-rule-preserved
loop-rule-preserved c =
    free-at (λ rule. row_breaks c.args.view.now c.args.rows.now (row_rule rule)) c.args.rules.now c.loop-rule.rule-index _
    c.loop-rule-test.true c.loop-rule.invariant c.in_default.ensures
