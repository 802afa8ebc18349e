use Rattle.std.proofs.Common.{◌≡◌, take}
use Rattle.config_lists.proofs.config.Config.copy.Given as goal

abbrev pub invariant-loop-place : goal.invariant-loop-place
invariant-loop-place l = l.copy ≡ take l.place l.self
