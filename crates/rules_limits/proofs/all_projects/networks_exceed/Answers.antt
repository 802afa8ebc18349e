use Rattle.rules_limits.specs.AllProjects.{networks_over}
use Rattle.rules_refusals.proofs.Saying.{refuses-here, free-next}
use Rattle.rules_limits.proofs.all_projects.networks_exceed.Goals as goal

pub returns-in-Err : goal.returns-in-Err
returns-in-Err c =
    refuses-here (networks_over c.args.before.now c.args.after.now) c.args.projects.now c.loop-project.project-index c.project-item.result c.in-Err.why
    c.loop-project-test.true c.project-item.is c.loop-project.invariant c.in-Err.ensures

pub loop-project-preserved : goal.loop-project-preserved
loop-project-preserved c =
    free-next (networks_over c.args.before.now c.args.after.now) c.args.projects.now c.loop-project.project-index c.project-item.result
    c.loop-project-test.true c.project-item.is c.loop-project.invariant c.in_default.ensures
