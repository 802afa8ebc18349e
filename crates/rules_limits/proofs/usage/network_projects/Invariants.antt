use Rattle.std.proofs.Common.{◌≡◌, map, take}
use Rattle.rules_limits.proofs.usage.network_projects.Given as goal

abbrev pub invariant-loop-network : goal.invariant-loop-network
invariant-loop-network l = l.names.items ≡ map (λ n. n.project) (take l.network-index l.networks)
