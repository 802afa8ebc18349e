use Rattle.std.proofs.Common.{sym, ◌∙◌}
use Rattle.rules_limits.proofs.Unshared.{nothing-beside, unlimited-beside}
use Rattle.rules_limits.proofs.one_operation.needs_usage.Goals as goal

pub returns-then-is_nothing : goal.returns-then-is_nothing
returns-then-is_nothing c = λ no projects name used other is.
    nothing-beside projects name used other c.args.asked.now (sym c.is_nothing.ensures ∙ c.if-is_nothing.true)

pub returns : goal.returns
returns c = λ no projects name used other is.
    unlimited-beside projects name used other c.args.asked.now c.args.limits is (sym c.is_limited_by.ensures ∙ no)
