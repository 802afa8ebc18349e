use Rattle.rest_routes.proofs.ByFilter.{asked_by_query}
use Rattle.rest_routes.proofs.laws.lists_are_asked_by_their_query.Goals as goal

pub returns : goal.returns
returns c = asked_by_query
