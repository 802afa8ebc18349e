use Rattle.std.proofs.Common.{◌≡◌, take}
use Rattle.rules_limits.specs.Sums.{sums_of}
use Rattle.rules_limits.proofs.sums.sums_of.Given as goal

-- the table of what counted so far
abbrev pub invariant-loop-load : goal.invariant-loop-load
invariant-loop-load l = l.sums.items ≡ sums_of (take l.load-index l.loads) l.projects
