use Rattle.std.proofs.Common.{◌≡◌, None, take}
use Rattle.row_machine.specs.machine.PolicyRules.{project_forbids}
use Rattle.plain_lists.specs.Firsts.{first_of}
use Rattle.rules_policy.proofs.policy.projects_forbid.Given as goal

-- those before break nothing
abbrev pub invariant-loop-project : goal.invariant-loop-project
invariant-loop-project l = first_of (project_forbids l.view l.number) (take l.project-index l.projects) ≡ None
