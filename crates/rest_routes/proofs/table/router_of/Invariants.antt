use Rattle.std.proofs.Common.{◌≡◌, true, [], map, drop}
use Rattle.rest_routes.specs.Endpoints.{are_taken, line_with, rows_after}
use Rattle.rest_routes.proofs.table.router_of.Given as goal

abbrev pub invariant-loop-route : goal.invariant-loop-route
invariant-loop-route l = record {
  same : rows_after (map (λ r. (r.0.now, line_with r.1 r.2)) (drop l.route-index l.routes)) l.router ≡ rows_after (map (λ r. (r.0.now, line_with r.1 r.2)) l.routes) [];
  taken : are_taken (map (λ r. (r.0.now, line_with r.1 r.2)) (drop l.route-index l.routes)) l.router ≡ true;
}
