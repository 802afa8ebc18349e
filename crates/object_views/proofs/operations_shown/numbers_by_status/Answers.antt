use Rattle.std.proofs.Common.{filter}
use Rattle.row_machine.specs.shown.Views.{if_any}
use Rattle.object_views.specs.Statuses.{has_status}
use Rattle.object_views.proofs.Numbered.{read-more}
use Rattle.object_views.proofs.operations_shown.numbers_by_status.Goals as goal

pub loop-status-preserved : goal.loop-status-preserved
loop-status-preserved c =
    read-more (λ status. if_any (λ o. o.number) status (filter (has_status c.args.project.now status) c.args.operations.now))
    c.args.statuses.now c.loop-status.status-index _ c.loop-status.groups _ c.loop-status-test.true c.in_ok-add_numbers.ensures c.loop-status.invariant
