use Rattle.config_lists.proofs.Lookups.{value_of-settled, IsConfig-settled}
use Rattle.config_lists.proofs.laws.setting_after_settling.Goals as goal

pub returns-clause-values : goal.returns-clause-values
returns-clause-values c = value_of-settled

pub returns-clause-config : goal.returns-clause-config
returns-clause-config c = IsConfig-settled
