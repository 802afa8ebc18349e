use Rattle.rules_refusals.proofs.Saying.{refuses-here, free-next}
use Rattle.row_machine.specs.machine.Holders.{user_in}
use Rattle.rules_conflicts.proofs.users.unused_within.Goals as goal

pub returns-in-Err : goal.returns-in-Err
returns-in-Err c =
    refuses-here (λ p. user_in c.args.view.now c.args.home.now c.args.of.now p.name) c.args.projects.now c.loop-project.project-index c.project-item.result c.in-Err.url
    c.loop-project-test.true c.project-item.is c.loop-project.invariant c.in-Err.ensures

pub loop-project-preserved : goal.loop-project-preserved
loop-project-preserved c =
    free-next (λ p. user_in c.args.view.now c.args.home.now c.args.of.now p.name) c.args.projects.now c.loop-project.project-index c.project-item.result
    c.loop-project-test.true c.project-item.is c.loop-project.invariant c.in_default.ensures
