use Rattle.std.proofs.Common.{◌≡◌, map, take}
use Rattle.row_machine.specs.shown.Notices.{view_of}
use Rattle.object_views.proofs.operations_shown.views.Given as goal

abbrev pub invariant-loop-row : goal.invariant-loop-row
invariant-loop-row l = l.views ≡ map view_of (take l.row-index l.operations)
