use Rattle.std.proofs.Common.{◌≡◌, drop}
use Rattle.records.specs.Forms.{are_distinct}
use Rattle.rules_opening.proofs.places.are_distinct.Given as goal

abbrev pub invariant-loop-index : goal.invariant-loop-index
invariant-loop-index l = are_distinct (drop l.index l.names) ≡ are_distinct l.names
