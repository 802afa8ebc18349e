use Rattle.rest_routes.proofs.FormedCommands.{routed_formed}
use Rattle.rest_routes.proofs.laws.what_is_routed_is_formed.Goals as goal

pub returns : goal.returns
returns c = routed_formed
