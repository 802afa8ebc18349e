use Rattle.rules_policy.specs.Within.{own_profile}
use Rattle.rules_policy.proofs.Below.{below-next}
use Rattle.rules_policy.proofs.lowest.lowest_of_profiles.Goals as goal

pub loop-profile-preserved : goal.loop-profile-preserved
loop-profile-preserved c =
    below-next (λ n. own_profile c.args.project.now n) c.args.profiles.now c.loop-profile.profile-index c.profile-item.result
    c.loop-profile-test.true c.profile-item.is c.loop-profile.invariant (rw c.deref.ensures at c.lowest_of_profile.ensures) c.min-lowest.ensures
