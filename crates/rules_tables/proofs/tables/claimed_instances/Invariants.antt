use Rattle.row_machine.specs.machine.Claims.{claimed_instance}
use Rattle.rules_tables.proofs.Counts.{Counted}
use Rattle.rules_tables.proofs.tables.claimed_instances.Given as goal

abbrev pub invariant-loop-operation : goal.invariant-loop-operation
invariant-loop-operation l = Counted (λ o. claimed_instance o.work) l.live l.operation-index l.count
