use Rattle.std.proofs.Common.{false, length, sym, ap, ◌∙◌, inl, inr}
use Rattle.std.proofs.lemmas.List.{length-map}
use Rattle.std.proofs.lemmas.Result.{IfOk-weaker}
use Rattle.row_machine.specs.machine.Usage.{loads}
use Rattle.row_readings.specs.PoolLimits.{used_under}
use Rattle.rules_limits.specs.declared.one_project.InUse.{InUse}
use Rattle.core_judging.proofs.Limits.{no-pools, none-set}
use Rattle.core_judging.proofs.one_project.use_before.Goals as goal

pub in_use-requires : goal.in_use-requires
in_use-requires c = c.requires

pub returns-then-set_one-clause-knows : goal.returns-then-set_one-clause-knows
returns-then-set_one-clause-knows c = IfOk-weaker c.in_use.result _ _ (λ used is later are pools_are. inl is) c.in_use.ensures

pub returns-then-set_one-clause-lines : goal.returns-then-set_one-clause-lines
returns-then-set_one-clause-lines c = IfOk-weaker c.in_use.result _ _
    (λ used is. ap (λ (u : InUse). length u.pools) is ∙ length-map c.args.pools.now (used_under (loads c.args.view.now)))
    c.in_use.ensures

pub returns-clause-knows : goal.returns-clause-knows
returns-clause-knows c = λ later are pools_are.
    inr (none-set later.projects c.args.project.now c.args.limits c.args.pools.now are pools_are (sym c.set_one.ensures ∙ c.if-set_one.false))

pub returns-clause-lines : goal.returns-clause-lines
returns-clause-lines c = ap length c.new.ensures ∙ sym (no-pools c.args.limits c.args.pools.now (sym c.set_one.ensures ∙ c.if-set_one.false))
