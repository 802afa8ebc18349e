use Rattle.std.proofs.Common.{◌≡◌, map, take}
use Rattle.row_machine.specs.shown.Views.{row_view}
use Rattle.object_views.proofs.row_views.row_views.Given as goal

abbrev pub invariant-loop-row : goal.invariant-loop-row
invariant-loop-row l = l.views ≡ map (row_view l.view) (take l.row-index l.rows)
