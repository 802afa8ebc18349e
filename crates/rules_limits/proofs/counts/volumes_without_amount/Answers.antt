use Rattle.rules_limits.specs.Within.{own_volume}
use Rattle.rules_refusals.proofs.Saying.{refuses-here, free-next}
use Rattle.rules_limits.proofs.counts.volumes_without_amount.Goals as goal

pub returns-in-Err : goal.returns-in-Err
returns-in-Err c =
    refuses-here (own_volume c.args.project.now) c.args.rows.now c.loop-row.row-index c.row-item.result c.in-Err.why
    c.loop-row-test.true c.row-item.is c.loop-row.invariant (rw c.deref.ensures at c.in-Err.ensures)

pub loop-row-preserved : goal.loop-row-preserved
loop-row-preserved c =
    free-next (own_volume c.args.project.now) c.args.rows.now c.loop-row.row-index c.row-item.result
    c.loop-row-test.true c.row-item.is c.loop-row.invariant (rw c.deref.ensures at c.in_default.ensures)
