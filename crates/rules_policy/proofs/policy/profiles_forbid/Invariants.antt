use Rattle.std.proofs.Common.{◌≡◌, None, take}
use Rattle.rules_policy.specs.Within.{own_profile}
use Rattle.plain_lists.specs.Firsts.{first_of}
use Rattle.rules_policy.proofs.policy.profiles_forbid.Given as goal

-- those before break nothing
abbrev pub invariant-loop-profile : goal.invariant-loop-profile
invariant-loop-profile l = first_of (own_profile l.project l.number) (take l.profile-index l.profiles) ≡ None
