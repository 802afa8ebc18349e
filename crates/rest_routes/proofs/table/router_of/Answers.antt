use Rattle.rest_routes.specs.Endpoints.{line_with}
use Rattle.rest_routes.proofs.Rows.{only_memory, taken_from}
use Rattle.rest_routes.proofs.table.router_of.Goals as goal

pub out_of_memory-requires : goal.out_of_memory-requires
out_of_memory-requires c =
    only_memory _ _ _ _ _ c.in-Err.error
    (taken_from (λ r. (r.0.now, line_with r.1 r.2)) c.args.routes.now c.loop-route.route-index _ c.loop-route.router c.loop-route-test.true c.loop-route.invariant.taken)
    c.in-Err.ensures
