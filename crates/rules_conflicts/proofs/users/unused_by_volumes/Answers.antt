use Rattle.rules_refusals.proofs.Saying.{refuses-here, free-next}
use Rattle.rules_conflicts.specs.Users.{volume_url}
use Rattle.rules_conflicts.proofs.users.unused_by_volumes.Goals as goal

pub returns-in-Err : goal.returns-in-Err
returns-in-Err c =
    refuses-here (volume_url c.args.of.now) c.args.rows.now c.loop-row.row-index c.row-item.result c.in-Err.url
    c.loop-row-test.true c.row-item.is c.loop-row.invariant (rw c.deref.ensures at c.in-Err.ensures)

pub loop-row-preserved : goal.loop-row-preserved
loop-row-preserved c =
    free-next (volume_url c.args.of.now) c.args.rows.now c.loop-row.row-index c.row-item.result
    c.loop-row-test.true c.row-item.is c.loop-row.invariant (rw c.deref.ensures at c.in_default.ensures)
