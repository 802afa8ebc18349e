use Rattle.rules_policy.specs.Within.{own_profile}
use Rattle.rules_refusals.proofs.Saying.{refuses-here, free-next}
use Rattle.rules_policy.proofs.policy.profiles_forbid.Goals as goal

pub returns-in-Err : goal.returns-in-Err
returns-in-Err c =
    refuses-here (own_profile c.args.project.now c.args.number) c.args.profiles.now c.loop-profile.profile-index c.profile-item.result c.in-Err.why
    c.loop-profile-test.true c.profile-item.is c.loop-profile.invariant (rw c.deref.ensures at c.in-Err.ensures)

pub loop-profile-preserved : goal.loop-profile-preserved
loop-profile-preserved c =
    free-next (own_profile c.args.project.now c.args.number) c.args.profiles.now c.loop-profile.profile-index c.profile-item.result
    c.loop-profile-test.true c.profile-item.is c.loop-profile.invariant (rw c.deref.ensures at c.in_default.ensures)
