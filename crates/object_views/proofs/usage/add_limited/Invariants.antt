use Rattle.std.proofs.Common.{◌≡◌, ◌++◌, take}
use Rattle.object_views.specs.Limited.{limited_lines}
use Rattle.object_views.proofs.usage.add_limited.Given as goal

-- those before
abbrev pub invariant-loop-place : goal.invariant-loop-place
invariant-loop-place l = l.lines ≡ l.initial.lines ++ limited_lines (take l.place l.limits) (take l.place l.uses)
