use Rattle.core_totals.proofs.NewProfiles.{profiles-alone}
use Rattle.core_totals.proofs.laws.new_profiles_are_judged_alone.Goals as goal

pub returns : goal.returns
returns c = profiles-alone
