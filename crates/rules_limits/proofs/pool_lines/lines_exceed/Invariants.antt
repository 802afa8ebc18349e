use Rattle.std.proofs.Common.{◌≡◌, None, take}
use Rattle.plain_lists.specs.Firsts.{first_of}
use Rattle.rules_limits.specs.Pools.{pool_lines, pool_line_over}
use Rattle.rules_limits.proofs.pool_lines.lines_exceed.Given as goal

-- those before break nothing
abbrev pub invariant-loop-place : goal.invariant-loop-place
invariant-loop-place l = first_of pool_line_over (take l.place (pool_lines l.limits l.before l.after)) ≡ None
