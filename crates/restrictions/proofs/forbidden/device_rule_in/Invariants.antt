use Rattle.std.proofs.Common.{◌≡◌, map, drop}
use Rattle.restrictions.specs.Policies.{seen}
use Rattle.restrictions.specs.Forbids.{device_rule_in}
use Rattle.restrictions.proofs.forbidden.device_rule_in.Given as goal

-- the first line is among those that are left
abbrev pub invariant-loop-line : goal.invariant-loop-line
invariant-loop-line l = device_rule_in (map (λ line. (line.0, line.1, line.2, line.3.now, line.4)) (drop l.line-index l.lines)) (seen l.policy) l.device ≡ device_rule_in (map (λ line. (line.0, line.1, line.2, line.3.now, line.4)) l.lines) (seen l.policy) l.device
