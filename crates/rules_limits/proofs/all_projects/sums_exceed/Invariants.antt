use Rattle.std.proofs.Common.{◌≡◌, None, take}
use Rattle.plain_lists.specs.Firsts.{first_of}
use Rattle.rules_limits.specs.Sums.{lines, line_over}
use Rattle.rules_limits.proofs.all_projects.sums_exceed.Given as goal

-- the parts before are within their limits
abbrev pub invariant-loop-part : goal.invariant-loop-part
invariant-loop-part l = first_of (λ k. first_of (line_over k) (lines l.projects l.before l.after)) (take l.part-index l.part-items) ≡ None
