use Rattle.row_machine.specs.machine.LimitRules.{claim_without_amount}
use Rattle.rules_refusals.proofs.Saying.{refuses-here, free-next}
use Rattle.rules_limits.proofs.counts.claims_without_amount.Goals as goal

pub returns-in-Err : goal.returns-in-Err
returns-in-Err c =
    refuses-here (λ o. claim_without_amount c.args.view.now c.args.project.now o.work) c.args.live.now c.loop-operation.operation-index c.operation-item.result c.in-Err.why
    c.loop-operation-test.true c.operation-item.is c.loop-operation.invariant c.in-Err.ensures

pub loop-operation-preserved : goal.loop-operation-preserved
loop-operation-preserved c =
    free-next (λ o. claim_without_amount c.args.view.now c.args.project.now o.work) c.args.live.now c.loop-operation.operation-index c.operation-item.result
    c.loop-operation-test.true c.operation-item.is c.loop-operation.invariant c.in_default.ensures
