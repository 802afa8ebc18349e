use Rattle.std.proofs.Common.{◌≡◌, None, take}
use Rattle.plain_lists.specs.Firsts.{first_of}
use Rattle.row_machine.specs.machine.PolicyRules.{project_forbids}
use Rattle.rules_policy.proofs.policy.policy_broken_in.Given as goal

-- those before break nothing
abbrev pub invariant-loop-number : goal.invariant-loop-number
invariant-loop-number l = first_of (λ number. first_of (project_forbids l.after number) l.projects) (take l.number-index l.number-items) ≡ None
