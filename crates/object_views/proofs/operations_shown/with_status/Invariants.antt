use Rattle.std.proofs.Common.{◌≡◌, filter, take}
use Rattle.object_views.specs.Statuses.{has_status}
use Rattle.object_views.proofs.operations_shown.with_status.Given as goal

abbrev pub invariant-loop-row : goal.invariant-loop-row
invariant-loop-row l = l.all.items ≡ filter (has_status l.project l.status) (take l.row-index l.operations)
