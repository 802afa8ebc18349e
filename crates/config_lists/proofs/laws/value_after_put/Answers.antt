use Rattle.std.proofs.Common.{cond, Some, ap, ◌∙◌}
use Rattle.config_lists.specs.Entries.{value_of}
use Rattle.config_lists.proofs.Keys.{bytes_eq-itself}
use Rattle.config_lists.proofs.Lookups.{value_of-put, apart}
use Rattle.config_lists.proofs.Puts.{KeysRise-put}
use Rattle.config_lists.proofs.laws.value_after_put.Goals as goal

pub returns-clause-here : goal.returns-clause-here
returns-clause-here g c entries key value = value_of-put entries key value key ∙ ap (λ t. cond t (Some value) (value_of entries key)) (bytes_eq-itself key)

pub returns-clause-others : goal.returns-clause-others
returns-clause-others g c entries key value other differs = value_of-put entries key value other ∙ ap (λ t. cond t (Some value) (value_of entries other)) (apart other key differs)

pub returns-clause-rising : goal.returns-clause-rising
returns-clause-rising g c entries key value up = KeysRise-put key value entries up
