use Rattle.std.proofs.Common.{◌≡◌, drop}
use Rattle.std.specs.List.{list_any}
use Rattle.std.specs.Map.{keys_of}
use Rattle.project_limits.specs.Limits.{is_limit_key}
use Rattle.project_limits.proofs.limits.has_limits.Given as goal

abbrev pub invariant-loop-place : goal.invariant-loop-place
invariant-loop-place l = list_any is_limit_key (keys_of l.project) ≡ list_any is_limit_key (drop l.place (keys_of l.project))
