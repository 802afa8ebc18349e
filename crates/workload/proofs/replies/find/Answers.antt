use Rattle.std.proofs.Common.{◌∙◌, sym}
use Rattle.workload.specs.Summary.{parted}
use Rattle.workload.proofs.Parting.{after-none, found-at, missed-at, tested}
use Rattle.workload.proofs.replies.find.Goals as goal

pub loop-place-init : goal.loop-place-init
loop-place-init c = after-none (parted c.args.mark.now c.args.text.now)

pub loop-place-preserved : goal.loop-place-preserved
loop-place-preserved c =
    c.loop-place.invariant
    ∙ missed-at c.args.mark.now c.args.text.now c.loop-place.place c.loop-place-test.true
    (tested c.args.mark.now c.args.text.now c.loop-place.place _ c.starts_with.ensures.value ∙ c.if-starts_with.false)

pub returns-then-starts_with-clause-parts : goal.returns-then-starts_with-clause-parts
returns-then-starts_with-clause-parts c =
    sym (c.loop-place.invariant
    ∙ found-at c.args.mark.now c.args.text.now c.loop-place.place c.loop-place-test.true
    (tested c.args.mark.now c.args.text.now c.loop-place.place _ c.starts_with.ensures.value ∙ c.if-starts_with.true))
