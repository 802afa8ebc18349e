use Rattle.std.proofs.Common.{sym, ◌∙◌, arith}
use Rattle.expansion.specs.Layers.{laid}
use Rattle.project_limits.specs.Pools.{root_part}
use Rattle.row_readings.specs.PoolLimits.{added}
use Rattle.row_readings.proofs.Over.{replaced-by_none}
use Rattle.row_readings.proofs.on_pools.add_root.Goals as goal

pub returns-then-len-eq0 : goal.returns-then-len-eq0
unfolding laid
returns-then-len-eq0 c =
    let row = c.args.row.now in
    let below = c.args.below.now in
    let bare = sym (replaced-by_none below.devices row.devices (omega (arith, c.len.ensures.len, c.if-len-eq0.true))) in
    c.add_root_of.ensures
    ∙ (λ i. added c.args.limits.now (c.view.ensures.value i) (root_part (bare i)) c.args.sums.now.items)

pub returns : goal.returns
unfolding laid
returns c =
    c.add_root_of-2.ensures
    ∙ (λ i. added c.args.limits.now (c.view-2.ensures.value i) (root_part (c.in_ok-devices.ensures i)) c.args.sums.now.items)
