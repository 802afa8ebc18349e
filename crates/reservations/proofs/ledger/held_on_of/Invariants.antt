use Rattle.std.proofs.Common.{◌≡◌, take}
use Rattle.reservations.specs.Holdings.{held_on}
use Rattle.reservations.proofs.ledger.held_on_of.Given as goal

abbrev pub invariant-loop-hold : goal.invariant-loop-hold
invariant-loop-hold l = l.total ≡ held_on l.project l.pool (take l.hold-index l.holds)
