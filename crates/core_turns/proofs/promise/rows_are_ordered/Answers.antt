use Rattle.std.proofs.Common.{subst}
use Rattle.row_readings.specs.Lent.{state_in}
use Rattle.machine_laws.specs.Sorted.{AreSortedRows}
use Rattle.core_turns.proofs.Ordered.{all-ordered}
use Rattle.core_turns.proofs.promise.rows_are_ordered.Goals as goal

pub returns : goal.returns
returns c =
    subst AreSortedRows c.view.view_is
    (all-ordered (state_in c.view.inside) c.profiles_are_ordered.ensures c.instances_are_ordered.ensures c.snapshots_are_ordered.ensures c.claims_are_ordered.ensures)
