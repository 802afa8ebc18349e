use Rattle.tests_settings.proofs.Computed.{layers_hold}
use Rattle.tests_settings.proofs.laws.settings_in_layers.Goals as goal

pub returns : goal.returns
returns c = layers_hold
