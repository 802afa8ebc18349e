use Rattle.std.proofs.Common.{◌<◌, ◌^◌, length, ap, ◌∙◌, arith}
use Rattle.std.proofs.lemmas.List.Sums.{sum_by_more_le, sum_by_more, sum_by-take-le}
use Rattle.size_values.specs.Amounts.{part}
use Rattle.size_values.proofs.AmountParts.{part-plus}
use Rattle.operations.specs.declared.operation.Operation.{Operation}
use Rattle.row_machine.specs.machine.Task.{Task}
use Rattle.row_readings.specs.Counted.{claim_part}
use Rattle.row_readings.proofs.Parts.{few-claims}
use Rattle.row_readings.proofs.usage.add_claims.Goals as goal

pub plus-sum-requires : goal.plus-sum-requires
plus-sum-requires c = λ k.
    let counts = λ (o : Operation Task). claim_part c.args.view.now c.args.project.now k o.work in
    let rows = c.args.live.now in
    let short : length rows < 2 ^ 63 = omega (arith, c.well_formed.1.1.0.1) in
    let index = c.loop-operation.operation-index in
    let item = c.operation-item.result in
    let most = sum_by_more_le counts rows index item c.loop-operation-test.true in
    let few = few-claims c.args.view.now c.args.project.now k rows short in
    let one = c.in_ok-more.ensures k ∙ ap counts c.operation-item.is in
    omega (arith, c.loop-operation.invariant k, one, most, few, c.requires k)

pub loop-operation-preserved : goal.loop-operation-preserved
loop-operation-preserved c = λ k.
    let counts = λ (o : Operation Task). claim_part c.args.view.now c.args.project.now k o.work in
    let index = c.loop-operation.operation-index in
    let item = c.operation-item.result in
    let more = sum_by_more counts c.args.live.now index item c.loop-operation-test.true in
    let one = c.in_ok-more.ensures k ∙ ap counts c.operation-item.is in
    ap (part k) c.plus-sum.ensures ∙ part-plus k c.loop-operation.sum c.in_ok-more.more ∙ omega (arith, c.loop-operation.invariant k, one, more)

pub returns-clause-few : goal.returns-clause-few
returns-clause-few c = λ k.
    let counts = λ (o : Operation Task). claim_part c.args.view.now c.args.project.now k o.work in
    let rows = c.args.live.now in
    let short : length rows < 2 ^ 63 = omega (arith, c.well_formed.1.1.0.1) in
    let most = sum_by-take-le counts rows c.loop-operation.operation-index in
    let few = few-claims c.args.view.now c.args.project.now k rows short in
    omega (arith, c.loop-operation.invariant k, most, few)
