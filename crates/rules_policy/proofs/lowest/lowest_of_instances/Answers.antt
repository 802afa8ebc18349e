use Rattle.rules_policy.specs.Within.{own_instance}
use Rattle.rules_policy.proofs.Below.{below-next}
use Rattle.rules_policy.proofs.lowest.lowest_of_instances.Goals as goal

pub loop-row-preserved : goal.loop-row-preserved
loop-row-preserved c =
    below-next (λ n. own_instance c.args.view.now c.args.project.now n) c.args.rows.now c.loop-row.row-index c.row-item.result
    c.loop-row-test.true c.row-item.is c.loop-row.invariant (rw c.deref.ensures at c.in_ok-found.ensures) c.min-lowest.ensures
