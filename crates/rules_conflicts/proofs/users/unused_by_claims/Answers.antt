use Rattle.rules_refusals.proofs.Saying.{refuses-here, free-next}
use Rattle.rules_conflicts.specs.Users.{claim_url}
use Rattle.rules_conflicts.proofs.users.unused_by_claims.Goals as goal

pub returns-in-Err : goal.returns-in-Err
returns-in-Err c =
    refuses-here (claim_url c.args.view.now c.args.home.now c.args.of.now c.args.project.now) c.args.live.now c.loop-operation.operation-index c.operation-item.result c.in-Err.url
    c.loop-operation-test.true c.operation-item.is c.loop-operation.invariant c.in-Err.ensures

pub loop-operation-preserved : goal.loop-operation-preserved
loop-operation-preserved c =
    free-next (claim_url c.args.view.now c.args.home.now c.args.of.now c.args.project.now) c.args.live.now c.loop-operation.operation-index c.operation-item.result
    c.loop-operation-test.true c.operation-item.is c.loop-operation.invariant c.in_default.ensures
