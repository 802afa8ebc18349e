use Rattle.rest_routes.proofs.Names.{names-fill}
use Rattle.rest_routes.proofs.path_laws.names_fill_the_braces.Goals as goal

pub returns : goal.returns
returns c = names-fill
