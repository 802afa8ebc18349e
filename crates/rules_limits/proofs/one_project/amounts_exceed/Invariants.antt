use Rattle.std.proofs.Common.{◌≡◌, None, take}
use Rattle.plain_lists.specs.Firsts.{first_of}
use Rattle.rules_limits.specs.Sums.{line_over}
use Rattle.rules_limits.proofs.one_project.amounts_exceed.Given as goal

-- the parts before are within their limits
abbrev pub invariant-loop-part : goal.invariant-loop-part
invariant-loop-part l = first_of (λ k. line_over k (l.project, (l.before, l.after))) (take l.part-index l.part-items) ≡ None
