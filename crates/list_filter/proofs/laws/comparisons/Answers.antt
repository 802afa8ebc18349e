use Rattle.list_filter.proofs.Comparing.{opposite, absent, plain, client}
use Rattle.list_filter.proofs.laws.comparisons.Goals as goal

pub returns : goal.returns
returns c = record { opposite = opposite; absent = absent; plain = plain; client = client }
