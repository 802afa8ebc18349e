use Rattle.std.proofs.Common.{◌++◌, ◌∷◌, [], None, sym, ap, subst, ◌∙◌}
use Rattle.plain_lists.proofs.Elements.{Each-none}
use Rattle.row_machine.specs.facts.Whole.{Rise}
use Rattle.row_readings.specs.PoolLimits.{limit_names}
use Rattle.row_readings.specs.declared.pool_limits.PoolLimit.{PoolLimit}
use Rattle.row_readings.proofs.pool_limits.PoolLimits.one.Goals as goal

-- a list of one rises
pub invariant_of-result : goal.invariant_of-result
invariant_of-result c =
    let made : PoolLimit = record { project = c.in_ok-project.project; pool = c.in_ok-pool.pool; limit = None } in
    subst (Rise limit_names) (sym (c.in_ok-push.ensures.items ∙ ap (λ before. before ++ made ∷ []) c.new-limits.ensures.items)) (Each-none, tt)
