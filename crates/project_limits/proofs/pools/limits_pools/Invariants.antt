use Rattle.std.proofs.Common.{◌≡◌, drop}
use Rattle.std.specs.List.{list_any}
use Rattle.std.specs.Map.{keys_of}
use Rattle.project_limits.specs.Pools.{is_pool_key}
use Rattle.project_limits.proofs.pools.limits_pools.Given as goal

abbrev pub invariant-loop-place : goal.invariant-loop-place
invariant-loop-place l = list_any is_pool_key (keys_of l.project) ≡ list_any is_pool_key (drop l.place (keys_of l.project))
