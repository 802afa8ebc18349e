use Rattle.std.proofs.Common.{None, cond, sym, ap, ◌∙◌}
use Rattle.size_values.specs.Amounts.{plus_of}
use Rattle.rules_refusals.proofs.Saying.{says-as}
use Rattle.rules_limits.specs.OneProject.{amounts_over}
use Rattle.rules_limits.proofs.one_operation.asked_exceeds.Goals as goal

pub returns : goal.returns
returns c =
    let used = c.args.used.now in
    let project = c.args.project.now in
    says-as c.amounts_exceed.result
    (ap (λ after. amounts_over used after project) c.plus.ensures
    ∙ sym (ap (λ b. cond b None (amounts_over used (plus_of used c.args.asked.now) project)) (sym c.is_nothing.ensures ∙ c.if-is_nothing.false)))
    c.amounts_exceed.ensures
