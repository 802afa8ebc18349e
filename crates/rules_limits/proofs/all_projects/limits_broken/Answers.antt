use Rattle.std.proofs.Common.{sym, ap, ◌∙◌}
use Rattle.rules_refusals.proofs.Saying.{says-as}
use Rattle.rules_limits.specs.AllProjects.{is_any_limited}
use Rattle.rules_limits.proofs.Serving.{limits-split, serves-split}
use Rattle.rules_limits.proofs.Unlimited.{unlimited-fits}
use Rattle.rules_limits.proofs.all_projects.limits_broken.Goals as goal

pub returns-then-not-is_any_limited-clause-counted : goal.returns-then-not-is_any_limited-clause-counted
returns-then-not-is_any_limited-clause-counted c = λ s is.
    unlimited-fits s c.args.after.now
    (ap is_any_limited (sym c.requires) ∙ sym c.is_any_limited.ensures ∙ c.if-not-is_any_limited.true)

pub returns-then-not-is_any_limited-clause-serving : goal.returns-then-not-is_any_limited-clause-serving
returns-then-not-is_any_limited-clause-serving c = λ s serves.
    unlimited-fits s c.args.after.now
    (ap is_any_limited (sym c.requires) ∙ sym c.is_any_limited.ensures ∙ c.if-not-is_any_limited.true)

pub returns-clause-counted : goal.returns-clause-counted
returns-clause-counted c = λ s is. says-as c.limits_exceed.result (limits-split s c.args.after.now c.args.before.now is) c.limits_exceed.ensures

pub returns-clause-serving : goal.returns-clause-serving
returns-clause-serving c = λ s serves.
    let limited = ap is_any_limited (sym c.requires) ∙ sym c.is_any_limited.ensures ∙ c.if-not-is_any_limited.false in
    says-as c.limits_exceed.result (serves-split s c.args.after.now c.args.before.now limited serves) c.limits_exceed.ensures
