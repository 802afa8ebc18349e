use Rattle.std.proofs.Common.{◌++◌, sym, ap, subst, ◌∙◌}
use Rattle.row_machine.specs.facts.Whole.{Rise}
use Rattle.row_readings.specs.PoolLimits.{limit_names, own_limits}
use Rattle.row_readings.proofs.LimitedPools.{rise-own}
use Rattle.row_readings.proofs.pool_limits.PoolLimits.of.Goals as goal

pub invariant_of-result : goal.invariant_of-result
invariant_of-result c =
    subst (Rise limit_names) (sym (c.in_ok-add_limits.ensures.limits ∙ ap (λ before. before ++ own_limits c.args.project.now) c.new-limits.ensures.items))
    (rise-own c.args.project.now c.in_ok-add_limits.ensures.rising)
