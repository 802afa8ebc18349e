use Rattle.tests_settings.proofs.Computed.{device_options_hold}
use Rattle.tests_settings.proofs.laws.options_of_devices.Goals as goal

pub returns : goal.returns
returns c = device_options_hold
