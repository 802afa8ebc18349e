use Rattle.list_filter.proofs.Meant.{as_meant}
use Rattle.list_filter.proofs.laws.filters_take_what_they_mean.Goals as goal

pub returns : goal.returns
returns c = as_meant
