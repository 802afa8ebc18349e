use Rattle.std.proofs.Common.{IsSome, subst}
use Rattle.operations.specs.OperationTable.{has_number}
use Rattle.std.proofs.lemmas.Bool.{false≢true}
use Rattle.plain_lists.proofs.Places.{none-position}
use Rattle.operations.proofs.lists.known_place.Goals as goal

pub unreachable-requires : goal.unreachable-requires
unreachable-requires g c = false≢true (subst IsSome (none-position (has_number c.args.number) c.args.operations.now c.in-None.ensures) c.requires)
