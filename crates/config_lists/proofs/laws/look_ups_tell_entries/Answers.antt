use Rattle.config_lists.proofs.Lookups.{same_entries}
use Rattle.config_lists.proofs.laws.look_ups_tell_entries.Goals as goal

pub returns : goal.returns
returns g c = same_entries
