use Rattle.rest_routes.proofs.Taken.{all_are_taken, routes_are_taken}
use Rattle.rest_routes.proofs.path_laws.paths_do_not_conflict.Goals as goal

pub returns : goal.returns
returns c = record { listed = routes_are_taken; empty = all_are_taken }
