use Rattle.std.proofs.Common.{cond, None, ap, ◌∙◌}
use Rattle.config_lists.specs.Entries.{value_of}
use Rattle.config_lists.proofs.Keys.{bytes_eq-itself}
use Rattle.config_lists.proofs.Lookups.{value_of-without, apart}
use Rattle.config_lists.proofs.Puts.{KeysRise-without}
use Rattle.config_lists.proofs.laws.value_after_removal.Goals as goal

pub returns-clause-here : goal.returns-clause-here
returns-clause-here g c entries key = value_of-without entries key key ∙ ap (λ t. cond t None (value_of entries key)) (bytes_eq-itself key)

pub returns-clause-others : goal.returns-clause-others
returns-clause-others g c entries key other differs = value_of-without entries key other ∙ ap (λ t. cond t None (value_of entries other)) (apart other key differs)

pub returns-clause-rising : goal.returns-clause-rising
returns-clause-rising g c entries key up = KeysRise-without key entries up
