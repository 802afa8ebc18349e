use Rattle.std.proofs.Common.{subst}
use Rattle.machine_laws.specs.Sorted.{AreSortedRows}
use Rattle.machine_laws.proofs.HeadlineStands.{stands}
use Rattle.core_turns.proofs.promise.no_project_is_above_its_limits.Goals as goal

pub returns : goal.returns
returns c = stands c.args.daemon.now c.view.ensures.whole (subst AreSortedRows c.view.ensures.rows c.rows_are_ordered.ensures)
