use Rattle.core_totals.proofs.Alone.{judged-alone}
use Rattle.core_totals.proofs.laws.claims_are_judged_alone.Goals as goal

pub returns : goal.returns
returns c = judged-alone
