use Rattle.std.proofs.Common.{◌≡◌, take}
use Rattle.size_values.specs.declared.amounts.Part.{Part}
use Rattle.size_values.specs.Amounts.{part}
use Rattle.reservations.specs.Holdings.{held_part}
use Rattle.reservations.proofs.ledger.held_of.Given as goal

abbrev pub invariant-loop-hold : goal.invariant-loop-hold
invariant-loop-hold l = (k : Part) → part k l.total ≡ held_part k l.project (take l.hold-index l.holds)
