use Rattle.std.proofs.Common.{◌≡◌, ◌++◌, take}
use Rattle.object_views.proofs.operations_shown.add_operations.Given as goal

abbrev pub invariant-loop-operation : goal.invariant-loop-operation
invariant-loop-operation l = l.all.items ≡ l.initial.all.items ++ take l.operation-index l.operations
