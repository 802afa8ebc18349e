use Rattle.std.proofs.Common.{◌≡◌, filter, subst, ◌∙◌}
use Rattle.std.specs.List.{filter_map}
use Rattle.std.specs.Result.{IfOk}
use Rattle.row_machine.specs.shown.Views.{if_any, statuses}
use Rattle.object_views.specs.Statuses.{has_status}
use Rattle.object_views.proofs.operations_shown.all_numbers.Goals as goal

pub returns : goal.returns
returns c =
    subst
    (λ os. IfOk c.numbers_by_status.result (λ groups. groups ≡ filter_map (λ status. if_any (λ o. o.number) status (filter (has_status c.args.project.now status) os)) statuses))
    (c.deref.ensures.value ∙ c.in_ok-operations.ensures) c.numbers_by_status.ensures
