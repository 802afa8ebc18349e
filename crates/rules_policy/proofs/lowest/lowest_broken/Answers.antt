use Rattle.row_machine.specs.machine.PolicyRules.{project_forbids}
use Rattle.rules_policy.proofs.Below.{below-next}
use Rattle.rules_policy.proofs.lowest.lowest_broken.Goals as goal

pub loop-project-preserved : goal.loop-project-preserved
loop-project-preserved c =
    below-next (λ n. project_forbids c.args.view.now n) c.args.projects.now c.loop-project.project-index c.project-item.result
    c.loop-project-test.true c.project-item.is c.loop-project.invariant c.in_ok-found.ensures c.min-lowest.ensures
