use Rattle.rules_refusals.proofs.Saying.{refuses-here, free-next}
use Rattle.rules_conflicts.specs.Users.{naming_url}
use Rattle.rules_conflicts.proofs.users.unnamed_by_all.Goals as goal

pub returns-in-Err : goal.returns-in-Err
returns-in-Err c =
    refuses-here (naming_url c.args.view.now c.args.home.now c.args.profile.now) c.args.rows.now c.loop-row.row-index c.row-item.result c.in-Err.url
    c.loop-row-test.true c.row-item.is c.loop-row.invariant (rw c.deref.ensures at c.in-Err.ensures)

pub loop-row-preserved : goal.loop-row-preserved
loop-row-preserved c =
    free-next (naming_url c.args.view.now c.args.home.now c.args.profile.now) c.args.rows.now c.loop-row.row-index c.row-item.result
    c.loop-row-test.true c.row-item.is c.loop-row.invariant (rw c.deref.ensures at c.in_default.ensures)
