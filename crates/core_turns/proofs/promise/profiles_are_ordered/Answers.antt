use Rattle.records.specs.declared.rows.Profile.{Profile}
use Rattle.records.specs.declared.rows.Row.TheVariants as row
use Rattle.machine_laws.specs.Sorted.{IsSortedRow}
use Rattle.core_turns.proofs.Ordered.{each-all, each-next}
use Rattle.core_turns.proofs.promise.profiles_are_ordered.Goals as goal

pub loop-profile-preserved : goal.loop-profile-preserved
loop-profile-preserved c =
    each-next (λ (r : Profile). IsSortedRow (row.Profile r)) c.args.profiles.now c.loop-profile.profile-index c.profile-item.result c.loop-profile-test.true c.profile-item.is
    (rw (c.deref.ensures, c.deref-in-loop-profile.ensures) at c.layer_is_ordered.ensures) c.loop-profile.invariant

pub returns : goal.returns
returns c =
    each-all (λ (r : Profile). IsSortedRow (row.Profile r)) c.args.profiles.now c.loop-profile.profile-index c.loop-profile-test.false c.loop-profile.invariant
