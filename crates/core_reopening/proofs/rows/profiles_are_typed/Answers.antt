use Rattle.records.specs.declared.rows.Profile.{Profile}
use Rattle.records.specs.declared.rows.Row.TheVariants as row
use Rattle.row_codec.specs.Rows.{HasTypedParts}
use Rattle.core_reopening.proofs.Typed.{each-all, each-next}
use Rattle.core_reopening.proofs.rows.profiles_are_typed.Goals as goal

pub loop-profile-preserved : goal.loop-profile-preserved
loop-profile-preserved c =
    each-next (λ (r : Profile). HasTypedParts (row.Profile r)) c.args.profiles.now c.loop-profile.profile-index c.profile-item.result c.loop-profile-test.true c.profile-item.is
    (rw c.deref.ensures at c.profile_is_typed.ensures) c.loop-profile.invariant

pub returns : goal.returns
returns c =
    each-all (λ (r : Profile). HasTypedParts (row.Profile r)) c.args.profiles.now c.loop-profile.profile-index c.loop-profile-test.false c.loop-profile.invariant
