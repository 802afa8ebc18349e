use Rattle.tests_settings.proofs.Computed.{options_hold}
use Rattle.tests_settings.proofs.laws.options_take_their_values.Goals as goal

pub returns : goal.returns
returns c = options_hold
