use Rattle.std.proofs.Common.{◌≡◌, length, sym, ap, subst, ◌∙◌}
use Rattle.std.proofs.lemmas.List.{length-map}
use Rattle.plain_lists.specs.Members.{Each}
use Rattle.size_values.specs.Causes.{Says}
use Rattle.row_machine.specs.machine.Usage.{loads}
use Rattle.row_readings.specs.PoolLimits.{used_under}
use Rattle.row_readings.specs.declared.pool_limits.PoolLimit.{PoolLimit}
use Rattle.rules_limits.specs.declared.one_project.InUse.{InUse}
use Rattle.core_totals.specs.OneProject.{in_use}
use Rattle.rules_limits.specs.OneProject.{uses_over}
use Rattle.rules_limits.proofs.Unlimited.{unlimited-uses}
use Rattle.row_readings.proofs.LimitedPools.{each-own}
use Rattle.core_judging.proofs.one_project.limits_broken.Goals as goal

pub returns-then-not-has_limits : goal.returns-then-not-has_limits
returns-then-not-has_limits c =
    let of = c.args.of.now in
    let used = in_use c.args.after.now of.name of.pools in
    ap (λ pools. uses_over pools of.used used c.args.project.now) c.requires.pools
    ∙ unlimited-uses c.args.project.now (sym c.has_limits.ensures ∙ c.if-not-has_limits.true) of.used used

pub in_use-requires : goal.in_use-requires
in_use-requires c =
    subst (Each (λ (l : PoolLimit). l.project ≡ c.view.result.now)) (sym c.requires.pools)
    (each-own c.args.project.now c.view.result.now (c.requires.name ∙ sym c.view.ensures.value))

pub uses_exceed-requires-clause-after : goal.uses_exceed-requires-clause-after
uses_exceed-requires-clause-after c =
    ap (λ (u : InUse). length u.pools) c.in_ok-used.ensures ∙ length-map c.args.of.now.pools (used_under (loads c.args.after.now))

pub returns : goal.returns
returns c =
    let of = c.args.of.now in
    subst (Says c.uses_exceed.result)
    (ap (λ used. uses_over of.pools of.used used c.args.project.now)
    (c.in_ok-used.ensures ∙ ap (λ name. in_use c.args.after.now name of.pools) c.view.ensures.value))
    c.uses_exceed.ensures
