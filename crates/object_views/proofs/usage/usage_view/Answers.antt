use Rattle.std.proofs.Common.{◌++◌, map, ap, ◌∙◌}
use Rattle.project_limits.specs.Pools.{limited_pools}
use Rattle.records.specs.declared.replies.View.TheVariants as shown
use Rattle.row_machine.specs.shown.Views.{pool_line, usage_view}
use Rattle.object_views.proofs.usage.usage_view.Goals as goal

pub returns : goal.returns
unfolding usage_view
returns c =
    let pools = map (pool_line c.args.view.now c.args.project.now) (limited_pools c.args.project.now.config) in
    ap shown.Usage (c.in_ok-add_pools.ensures ∙ ap (λ sums. sums ++ pools) c.in_ok-lines.ensures)
