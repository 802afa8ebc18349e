use Rattle.std.proofs.Common.{ap, ◌∙◌, arith}
use Rattle.size_values.specs.declared.amounts.Amounts.{Amounts}
use Rattle.project_limits.specs.Instance.{volume_amounts}
use Rattle.project_limits.specs.Pools.{sized_part}
use Rattle.row_readings.specs.PoolLimits.{added}
use Rattle.row_readings.proofs.Small.{low-sized}
use Rattle.row_readings.proofs.on_pools.add_volume.Goals as goal

pub add_to_line-requires-clause-small : goal.add_to_line-requires-clause-small
unfolding sized_part volume_amounts
add_to_line-requires-clause-small c =
    omega (arith, low-sized c.args.row.now.pool c.args.row.now.config, ap (λ (a : Amounts). a.disk) c.volume_amounts-disk.ensures)

pub returns : goal.returns
unfolding sized_part volume_amounts
returns c =
    c.add_to_line.ensures
    ∙ (λ i. added c.args.limits.now (c.view.ensures.value i) (record { pool = c.view-2.ensures.value i; disk = (c.volume_amounts-disk.ensures i).disk }) c.args.sums.now.items)
