use Rattle.std.proofs.Common.{[]}
use Rattle.rules_refusals.proofs.Saying.{says-as}
use Rattle.rules_opening.proofs.Limits.{limit-breach}
use Rattle.rules_opening.proofs.whole.limit_breaks.Goals as goal

pub returns : goal.returns
returns c = says-as c.limit_breach.result (limit-breach c.args.view.now []) c.limit_breach.ensures
