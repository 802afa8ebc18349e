use Rattle.std.proofs.Common.{IsSome, subst}
use Rattle.std.proofs.lemmas.Bool.{false≢true}
use Rattle.plain_lists.proofs.Places.{none-position}
use Rattle.reservations.specs.Holdings.{has_op}
use Rattle.reservations.proofs.ledger.index_of.Goals as goal

pub unreachable-requires : goal.unreachable-requires
unreachable-requires c = false≢true (subst IsSome (none-position (has_op c.args.op) c.args.holds.now c.in-None.ensures) c.requires)
