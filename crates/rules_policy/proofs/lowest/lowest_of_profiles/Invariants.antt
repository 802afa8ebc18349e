use Rattle.std.proofs.Common.{take}
use Rattle.plain_lists.specs.Firsts.{first_of}
use Rattle.rules_policy.specs.Within.{own_profile}
use Rattle.rules_policy.specs.Lowest.{HoldBelow}
use Rattle.rules_policy.proofs.lowest.lowest_of_profiles.Given as goal

-- those before break no rule of a lower number
abbrev pub invariant-loop-profile : goal.invariant-loop-profile
invariant-loop-profile l = HoldBelow l.lowest (λ n. first_of (own_profile l.project n) (take l.profile-index l.profiles))
