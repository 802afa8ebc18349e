use Rattle.rest_routes.specs.Endpoints.{routes}
use Rattle.rest_routes.proofs.Taken.{routes_are_taken}
use Rattle.rest_routes.proofs.table.full_router.Goals as goal

pub router_of-requires : goal.router_of-requires
unfolding routes
router_of-requires c = routes_are_taken
