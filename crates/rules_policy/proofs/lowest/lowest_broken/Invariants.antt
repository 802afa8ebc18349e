use Rattle.std.proofs.Common.{take}
use Rattle.plain_lists.specs.Firsts.{first_of}
use Rattle.row_machine.specs.machine.PolicyRules.{project_forbids}
use Rattle.rules_policy.specs.Lowest.{HoldBelow}
use Rattle.rules_policy.proofs.lowest.lowest_broken.Given as goal

-- those before break no rule of a lower number
abbrev pub invariant-loop-project : goal.invariant-loop-project
invariant-loop-project l = HoldBelow l.lowest (λ n. first_of (project_forbids l.view n) (take l.project-index l.projects))
