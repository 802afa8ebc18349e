use Rattle.rules_policy.specs.Within.{own_claim}
use Rattle.rules_refusals.proofs.Saying.{refuses-here, free-next}
use Rattle.rules_policy.proofs.alone.projects_forbid.Goals as goal

pub returns-in-Err : goal.returns-in-Err
returns-in-Err c =
    refuses-here (λ p. own_claim c.args.view.now p c.args.number c.args.work.now) c.args.projects.now c.loop-project.project-index c.project-item.result c.in-Err.why
    c.loop-project-test.true c.project-item.is c.loop-project.invariant c.in-Err.ensures

pub loop-project-preserved : goal.loop-project-preserved
loop-project-preserved c =
    free-next (λ p. own_claim c.args.view.now p c.args.number c.args.work.now) c.args.projects.now c.loop-project.project-index c.project-item.result
    c.loop-project-test.true c.project-item.is c.loop-project.invariant c.in_default.ensures
