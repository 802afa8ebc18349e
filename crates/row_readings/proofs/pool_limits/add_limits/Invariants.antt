use Rattle.std.proofs.Common.{◌≡◌, ◌++◌, take}
use Rattle.std.specs.List.{filter_map}
use Rattle.std.specs.Map.{keys_of}
use Rattle.row_readings.specs.PoolLimits.{limit_of_key}
use Rattle.row_readings.proofs.pool_limits.add_limits.Given as goal

-- those of the keys before
abbrev pub invariant-loop-place : goal.invariant-loop-place
invariant-loop-place l = l.limits.items ≡ l.initial.limits.items ++ filter_map (limit_of_key l.project) (take l.place (keys_of l.project.config))
