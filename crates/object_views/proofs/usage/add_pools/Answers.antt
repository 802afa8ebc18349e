use Rattle.std.proofs.Common.{◌≡◌, ◌++◌, length, sym, ap, ap₂, subst, ◌∙◌}
use Rattle.std.specs.Prelude.{OnOk}
use Rattle.std.proofs.lemmas.List.{length-map}
use Rattle.plain_lists.specs.Members.{Each}
use Rattle.row_machine.specs.machine.Usage.{loads}
use Rattle.row_readings.specs.PoolLimits.{own_limits, pool_sums, used_under}
use Rattle.row_readings.specs.declared.pool_limits.PoolLimit.{PoolLimit}
use Rattle.row_readings.proofs.LimitedPools.{each-own}
use Rattle.object_views.specs.Limited.{limited_lines}
use Rattle.object_views.proofs.Limited.{pools-shown}
use Rattle.object_views.proofs.usage.add_pools.Goals as goal

pub pool_uses-requires : goal.pool_uses-requires
pool_uses-requires c =
    subst (Each (λ (l : PoolLimit). l.project ≡ c.view-name.result.now)) (sym c.in_ok-pools.ensures)
    (each-own c.args.project.now c.view-name.result.now (sym c.view-name.ensures.value))

pub add_limited-requires : goal.add_limited-requires
add_limited-requires c =
    let own = own_limits c.args.project.now in
    let limits = c.view-limits.ensures.same ∙ c.in_ok-pools.ensures in
    let used = c.view-used.ensures ∙ c.in_ok-uses.ensures ∙ ap (pool_sums (loads c.args.view.now)) c.in_ok-pools.ensures in
    ap length used ∙ length-map own (used_under (loads c.args.view.now)) ∙ sym (ap length limits)

pub returns : goal.returns
returns c =
    let limits = c.view-limits.ensures.same ∙ c.in_ok-pools.ensures in
    let used = c.view-used.ensures ∙ c.in_ok-uses.ensures ∙ ap (pool_sums (loads c.args.view.now)) c.in_ok-pools.ensures in
    subst (λ shown. OnOk c.add_limited.result (c.add_limited.new.lines ≡ c.args.lines.now ++ shown))
    (ap₂ limited_lines limits used ∙ pools-shown c.args.view.now c.args.project.now) c.add_limited.ensures
