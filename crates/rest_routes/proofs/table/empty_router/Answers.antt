use Rattle.rest_routes.specs.Endpoints.{empty_lists}
use Rattle.rest_routes.proofs.Taken.{empty_lists_are_taken}
use Rattle.rest_routes.proofs.table.empty_router.Goals as goal

pub router_of-requires : goal.router_of-requires
unfolding empty_lists
router_of-requires c = empty_lists_are_taken
