use Rattle.rules_policy.specs.Within.{own_claim}
use Rattle.rules_refusals.proofs.Saying.{refuses-here, free-next}
use Rattle.rules_policy.proofs.policy.claims_forbid.Goals as goal

pub returns-in-Err : goal.returns-in-Err
returns-in-Err c =
    refuses-here (λ o. own_claim c.args.view.now c.args.project.now c.args.number o.work) c.args.live.now c.loop-operation.operation-index c.operation-item.result c.in-Err.why
    c.loop-operation-test.true c.operation-item.is c.loop-operation.invariant c.in-Err.ensures

pub loop-operation-preserved : goal.loop-operation-preserved
loop-operation-preserved c =
    free-next (λ o. own_claim c.args.view.now c.args.project.now c.args.number o.work) c.args.live.now c.loop-operation.operation-index c.operation-item.result
    c.loop-operation-test.true c.operation-item.is c.loop-operation.invariant c.in_default.ensures
