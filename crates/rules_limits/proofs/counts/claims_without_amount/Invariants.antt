use Rattle.std.proofs.Common.{◌≡◌, None, take}
use Rattle.row_machine.specs.machine.LimitRules.{claim_without_amount}
use Rattle.plain_lists.specs.Firsts.{first_of}
use Rattle.rules_limits.proofs.counts.claims_without_amount.Given as goal

-- those before break nothing
abbrev pub invariant-loop-operation : goal.invariant-loop-operation
invariant-loop-operation l = first_of (λ o. claim_without_amount l.view l.project o.work) (take l.operation-index l.live) ≡ None
