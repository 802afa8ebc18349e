use Rattle.tests_settings.proofs.Computed.{limits_hold}
use Rattle.tests_settings.proofs.laws.limits_and_amounts.Goals as goal

pub returns : goal.returns
returns c = limits_hold
