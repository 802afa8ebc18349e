use Rattle.std.proofs.Common.{◌≡◌, None, take}
use Rattle.plain_lists.specs.Firsts.{first_of}
use Rattle.rules_policy.specs.Within.{own_claim}
use Rattle.rules_policy.proofs.alone.claim_forbidden_in.Given as goal

-- those before break nothing
abbrev pub invariant-loop-number : goal.invariant-loop-number
invariant-loop-number l = first_of (λ number. first_of (λ p. own_claim l.view p number l.work) l.projects) (take l.number-index l.number-items) ≡ None
