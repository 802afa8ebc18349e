use Rattle.rest_routes.proofs.Server.{server-stands, nothing-said}
use Rattle.rest_routes.proofs.path_laws.the_server_stands_at_its_path.Goals as goal

pub returns : goal.returns
returns c = record { line = server-stands; query = nothing-said }
