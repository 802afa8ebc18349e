use Rattle.tests_values.proofs.Computed.{summaries_hold}
use Rattle.tests_values.proofs.laws.summaries_of_replies.Goals as goal

pub returns : goal.returns
returns c = summaries_hold
