use Rattle.std.proofs.Common.{◌≡◌, None, take}
use Rattle.plain_lists.specs.Firsts.{first_of}
use Rattle.rules_limits.specs.Sums.{lines, line_over}
use Rattle.rules_limits.proofs.all_projects.part_exceeds.Given as goal

-- those before break nothing
abbrev pub invariant-loop-place : goal.invariant-loop-place
invariant-loop-place l = first_of (line_over l.part) (take l.place (lines l.projects l.before l.after)) ≡ None
