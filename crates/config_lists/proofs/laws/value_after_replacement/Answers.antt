use Rattle.config_lists.proofs.Lookups.{value_of-replaced, KeysRise-replaced}
use Rattle.config_lists.proofs.laws.value_after_replacement.Goals as goal

pub returns-clause-values : goal.returns-clause-values
returns-clause-values g c = value_of-replaced

pub returns-clause-rising : goal.returns-clause-rising
returns-clause-rising g c = KeysRise-replaced
