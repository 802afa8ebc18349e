use Rattle.std.proofs.Common.{◌≡◌, take, filter}
use Rattle.config_lists.specs.Changes.{has_value}
use Rattle.config_lists.proofs.changes.Changes.settled.Given as goal

abbrev pub invariant-loop-place : goal.invariant-loop-place
invariant-loop-place l = l.config ≡ filter has_value (take l.place l.self)
