use Rattle.std.proofs.Common.{◌≡◌, ℕ, List, map, drop}
use Rattle.std.specs.List.{enumerate_from}
use Rattle.restrictions.specs.Policies.{seen}
use Rattle.restrictions.specs.Forbids.{forbidden_at, earlier, lowest, setting_rule}
use Rattle.restrictions.proofs.forbidden.lowest_setting.Given as goal

-- the lowest so far, and what is left
abbrev pub invariant-loop-place : goal.invariant-loop-place
invariant-loop-place l =
    let item = λ (s : ℕ × (List ℕ × List ℕ)). forbidden_at s.0 (setting_rule (seen l.policy) l.subject s.1.0 s.1.1) in
    earlier l.lowest (lowest (map item (enumerate_from l.place (drop l.place l.config)))) ≡ lowest (map item (enumerate_from 0 l.config))
