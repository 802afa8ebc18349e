use Rattle.serve_loop.proofs.FilterLemmas.{none_where_none}
use Rattle.serve_loop.proofs.subscription_laws.no_filter_where_none_is_asked.Goals as goal

pub returns : goal.returns
returns c = none_where_none
