use Rattle.std.proofs.Common.{get_or}
use Rattle.size_values.specs.declared.amounts.Part.TheVariants as part_of
use Rattle.project_limits.specs.Admission.{parts}
use Rattle.rules_refusals.proofs.Saying.{refuses-here, free-next}
use Rattle.rules_limits.specs.Sums.{line_over}
use Rattle.rules_limits.proofs.Tables.{any-default}
use Rattle.rules_limits.proofs.one_project.amounts_exceed.Goals as goal

pub returns-in-Err : goal.returns-in-Err
returns-in-Err c =
    let i = c.loop-part.part-index in
    let k = get_or parts i part_of.Instances in
    refuses-here (λ part. line_over part (c.args.project.now, (c.args.before.now, c.args.after.now))) parts i k c.in-Err.why
    c.loop-part-test.true (any-default parts i part_of.Instances k c.loop-part-test.true) c.loop-part.invariant c.in-Err.ensures

pub loop-part-preserved : goal.loop-part-preserved
loop-part-preserved c =
    let i = c.loop-part.part-index in
    let k = get_or parts i part_of.Instances in
    free-next (λ part. line_over part (c.args.project.now, (c.args.before.now, c.args.after.now))) parts i k
    c.loop-part-test.true (any-default parts i part_of.Instances k c.loop-part-test.true) c.loop-part.invariant c.in_default.ensures
