use Rattle.std.proofs.Common.{◌≡◌, filter, take}
use Rattle.std.specs.List.{filter_map}
use Rattle.row_machine.specs.shown.Views.{if_any}
use Rattle.object_views.specs.Statuses.{has_status}
use Rattle.object_views.proofs.operations_shown.numbers_by_status.Given as goal

abbrev pub invariant-loop-status : goal.invariant-loop-status
invariant-loop-status l = l.groups ≡ filter_map (λ status. if_any (λ o. o.number) status (filter (has_status l.project status) l.operations)) (take l.status-index l.statuses)
