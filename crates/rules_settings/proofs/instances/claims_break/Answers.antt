use Rattle.rules_settings.specs.Named.{where_claimed}
use Rattle.rules_refusals.proofs.Saying.{refuses-here, free-next}
use Rattle.rules_settings.proofs.instances.claims_break.Goals as goal

pub returns-in-Err : goal.returns-in-Err
returns-in-Err c =
    refuses-here (λ o. where_claimed c.args.view.now c.args.profile.now o.work) c.args.live.now c.loop-operation.operation-index c.operation-item.result c.in-Err.why
    c.loop-operation-test.true c.operation-item.is c.loop-operation.invariant c.in-Err.ensures

pub loop-operation-preserved : goal.loop-operation-preserved
loop-operation-preserved c =
    free-next (λ o. where_claimed c.args.view.now c.args.profile.now o.work) c.args.live.now c.loop-operation.operation-index c.operation-item.result
    c.loop-operation-test.true c.operation-item.is c.loop-operation.invariant c.in_default.ensures
