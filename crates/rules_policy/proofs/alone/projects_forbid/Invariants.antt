use Rattle.std.proofs.Common.{◌≡◌, None, take}
use Rattle.rules_policy.specs.Within.{own_claim}
use Rattle.plain_lists.specs.Firsts.{first_of}
use Rattle.rules_policy.proofs.alone.projects_forbid.Given as goal

-- those before break nothing
abbrev pub invariant-loop-project : goal.invariant-loop-project
invariant-loop-project l = first_of (λ p. own_claim l.view p l.number l.work) (take l.project-index l.projects) ≡ None
