use Rattle.std.proofs.Common.{sym, ◌∙◌}
use Rattle.rules_refusals.proofs.Saying.{says-as}
use Rattle.rules_limits.proofs.Countables.{without_amount-split}
use Rattle.rules_limits.proofs.Unlimited.{unlimited-counts}
use Rattle.rules_limits.proofs.counts.project_without_amount.Goals as goal

pub returns-then-not-needs_numbers : goal.returns-then-not-needs_numbers
returns-then-not-needs_numbers c =
    unlimited-counts c.args.project.now (sym c.needs_numbers.ensures ∙ c.if-not-needs_numbers.true) c.args.view.now

pub returns : goal.returns
returns c = says-as c.objects_without_amount.result (without_amount-split c.args.view.now c.args.project.now) c.objects_without_amount.ensures
