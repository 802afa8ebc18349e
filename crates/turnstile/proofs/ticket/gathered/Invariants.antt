use Rattle.std.proofs.Common.{◌≡◌, ◌+◌, length, sum_by}
use Rattle.turnstile.proofs.ticket.gathered.Given as goal

-- the parts and turns so far, with those of the tickets that are left, are those of all
abbrev pub invariant-loop-ticket : goal.invariant-loop-ticket
invariant-loop-ticket g l =
    (l.all.parts + length l.others.items ≡ length l.fn.others.items + 1)
    × (l.all.amount + sum_by (λ p. p.made) l.others.items ≡ sum_by (λ p. p.made) l.fn.others.items + l.fn.first.made)

abbrev pub decreases-loop-ticket : goal.decreases-loop-ticket
decreases-loop-ticket g l = goal.left-loop-ticket g l
