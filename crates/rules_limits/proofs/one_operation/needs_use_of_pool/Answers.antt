use Rattle.std.proofs.Common.{sym, eq-eqb, ◌∙◌}
use Rattle.rules_limits.proofs.Unshared.{nothing-on_pool, unlimited-on_pool}
use Rattle.rules_limits.proofs.one_operation.needs_use_of_pool.Goals as goal

pub returns-then-part-eq0 : goal.returns-then-part-eq0
returns-then-part-eq0 c = λ no projects name used other is.
    nothing-on_pool projects name used other c.args.part.now (eq-eqb c.args.part.now.disk 0 c.if-part-eq0.true)

pub returns : goal.returns
returns c = λ no projects name used other is.
    unlimited-on_pool projects name used other c.args.part.now c.args.limit is (sym c.is_some.ensures ∙ no)
