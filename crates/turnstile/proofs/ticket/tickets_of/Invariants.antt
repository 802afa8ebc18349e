use Rattle.std.proofs.Common.{◌≡◌, ◌+◌, All, length}
use Rattle.turnstile.proofs.ticket.tickets_of.Given as goal

-- a part is left for each ticket that is still to come
abbrev pub invariant-loop-i : goal.invariant-loop-i
invariant-loop-i g l =
    (l.rest.parts + l._i ≡ l.count) × (l.rest.amount ≡ 0) × (length l.tickets.items ≡ l._i) × All (λ p. p.made ≡ 0) l.tickets.items
