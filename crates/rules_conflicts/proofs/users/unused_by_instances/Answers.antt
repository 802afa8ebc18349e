use Rattle.std.proofs.Common.{◌≡◌, None, subst}
use Rattle.size_values.specs.Causes.{Refuses}
use Rattle.rules_refusals.proofs.Saying.{refuses-here, free-next}
use Rattle.rules_conflicts.specs.Users.{instance_url}
use Rattle.rules_conflicts.proofs.users.unused_by_instances.Goals as goal

pub returns-in-Err : goal.returns-in-Err
returns-in-Err c =
    refuses-here (instance_url c.args.view.now c.args.home.now c.args.of.now) c.args.rows.now c.loop-row.row-index c.row-item.result c.in-Err.url
    c.loop-row-test.true c.row-item.is c.loop-row.invariant
    (subst (λ r. Refuses c.in-Err.url (instance_url c.args.view.now c.args.home.now c.args.of.now r)) c.deref.ensures c.in-Err.ensures)

pub loop-row-preserved : goal.loop-row-preserved
loop-row-preserved c =
    free-next (instance_url c.args.view.now c.args.home.now c.args.of.now) c.args.rows.now c.loop-row.row-index c.row-item.result
    c.loop-row-test.true c.row-item.is c.loop-row.invariant
    (subst (λ r. instance_url c.args.view.now c.args.home.now c.args.of.now r ≡ None) c.deref.ensures c.in_default.ensures)
