use Rattle.tests_values.proofs.Computed.{entries_hold}
use Rattle.tests_values.proofs.laws.entries_after_changes.Goals as goal

pub returns : goal.returns
returns c = entries_hold
