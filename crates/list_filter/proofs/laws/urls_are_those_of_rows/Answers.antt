use Rattle.list_filter.proofs.Leading.{urls}
use Rattle.list_filter.proofs.laws.urls_are_those_of_rows.Goals as goal

pub returns : goal.returns
returns c = urls
