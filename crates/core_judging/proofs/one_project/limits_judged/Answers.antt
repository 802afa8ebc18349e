use Rattle.std.proofs.Common.{[], sym, ap, ◌∙◌}
use Rattle.std.specs.Option.{option_map_or}
use Rattle.plain_lists.proofs.Searches.{find-some}
use Rattle.config_lists.proofs.Keys.{same}
use Rattle.row_machine.specs.machine.Rows.{is_project}
use Rattle.row_readings.specs.PoolLimits.{own_limits}
use Rattle.rules_limits.specs.Limited.{pools_named}
use Rattle.core_judging.proofs.one_project.limits_judged.Goals as goal

pub limits_broken-requires-clause-name : goal.limits_broken-requires-clause-name
limits_broken-requires-clause-name c =
    let p = c.in-Some.project in
    same p.name c.view.result.now (find-some (is_project c.view.result.now) c.args.after.now.projects p (sym c.in-Some.ensures)).1
    ∙ c.view.ensures.value

pub limits_broken-requires-clause-pools : goal.limits_broken-requires-clause-pools
limits_broken-requires-clause-pools c =
    c.requires.pools
    ∙ ap (pools_named c.args.after.now.projects) (sym c.view.ensures.value)
    ∙ ap (λ o. option_map_or own_limits o []) (sym c.in-Some.ensures)
