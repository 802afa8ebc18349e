use Rattle.tests_settings.proofs.Computed.{names_hold}
use Rattle.tests_settings.proofs.laws.names_and_uses.Goals as goal

pub returns : goal.returns
returns c = names_hold
