use Rattle.std.proofs.Common.{◌≡◌, map, take}
use Rattle.object_views.proofs.operations_shown.numbers.Given as goal

abbrev pub invariant-loop-row : goal.invariant-loop-row
invariant-loop-row l = l.numbers ≡ map (λ o. o.number) (take l.row-index l.operations)
