use Rattle.std.proofs.Common.{◌≡◌, ◌++◌, map, drop}
use Rattle.serde_json.specs.View.{view}
use Rattle.rest_json.specs.Operations.{operation_data}
use Rattle.rest_replies.proofs.printing.operations_value.Given as goal

abbrev pub invariant-loop-operation : goal.invariant-loop-operation
invariant-loop-operation l = map view l.values.items ++ map (operation_data l.boot) (drop l.operation-index l.operation-items) ≡ map (operation_data l.boot) l.operation-items
