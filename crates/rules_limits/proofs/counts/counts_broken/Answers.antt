use Rattle.std.proofs.Common.{subst}
use Rattle.plain_lists.specs.Firsts.{first_of}
use Rattle.size_values.specs.Causes.{Refuses}
use Rattle.row_machine.specs.machine.LimitRules.{counts_broken, project_without_amount}
use Rattle.rules_refusals.proofs.Saying.{refuses-here, free-next}
use Rattle.rules_limits.proofs.counts.counts_broken.Goals as goal

pub returns-in-Err : goal.returns-in-Err
unfolding counts_broken
returns-in-Err c =
    let rule = project_without_amount c.args.after.now in
    subst (λ projects. Refuses c.in-Err.why (first_of rule projects)) c.requires
    (refuses-here rule c.args.projects.now c.loop-project.project-index c.project-item.result c.in-Err.why
    c.loop-project-test.true c.project-item.is c.loop-project.invariant c.in-Err.ensures)

pub loop-project-preserved : goal.loop-project-preserved
loop-project-preserved c =
    free-next (project_without_amount c.args.after.now) c.args.projects.now c.loop-project.project-index c.project-item.result
    c.loop-project-test.true c.project-item.is c.loop-project.invariant c.in_default.ensures
