use Rattle.config_lists.proofs.Lookups.{value_of-patched, IsConfig-patched}
use Rattle.config_lists.proofs.laws.setting_after_patch.Goals as goal

pub returns-clause-values : goal.returns-clause-values
returns-clause-values c = value_of-patched

pub returns-clause-config : goal.returns-clause-config
returns-clause-config c = IsConfig-patched
