use Rattle.std.proofs.Common.{◌<◌, ◌^◌, length, ap, ◌∙◌, arith}
use Rattle.std.proofs.lemmas.List.Sums.{sum_by_more_le, sum_by_more, sum_by-take-le}
use Rattle.size_values.specs.Amounts.{part}
use Rattle.size_values.proofs.AmountParts.{part-plus}
use Rattle.row_readings.specs.Counted.{volume_part}
use Rattle.row_readings.proofs.Parts.{few-volumes}
use Rattle.row_readings.proofs.usage.add_volumes.Goals as goal

pub plus-sum-requires : goal.plus-sum-requires
plus-sum-requires c = λ k.
    let counts = volume_part c.args.project.now k in
    let rows = c.args.rows.now in
    let short : length rows < 2 ^ 63 = omega (arith, c.well_formed.0.1) in
    let index = c.loop-row.row-index in
    let item = c.row-item.result in
    let most = sum_by_more_le counts rows index item c.loop-row-test.true in
    let few = few-volumes c.args.project.now k rows short in
    let one = c.volume_counts.ensures k ∙ ap counts (c.deref.ensures ∙ c.row-item.is) in
    omega (arith, c.loop-row.invariant k, one, most, few, c.requires k)

pub loop-row-preserved : goal.loop-row-preserved
loop-row-preserved c = λ k.
    let counts = volume_part c.args.project.now k in
    let index = c.loop-row.row-index in
    let item = c.row-item.result in
    let more = sum_by_more counts c.args.rows.now index item c.loop-row-test.true in
    let one = c.volume_counts.ensures k ∙ ap counts (c.deref.ensures ∙ c.row-item.is) in
    ap (part k) c.plus-sum.ensures ∙ part-plus k c.loop-row.sum c.volume_counts.result ∙ omega (arith, c.loop-row.invariant k, one, more)

pub returns-clause-few : goal.returns-clause-few
returns-clause-few c = λ k.
    let counts = volume_part c.args.project.now k in
    let rows = c.args.rows.now in
    let short : length rows < 2 ^ 63 = omega (arith, c.well_formed.0.1) in
    let most = sum_by-take-le counts rows c.loop-row.row-index in
    let few = few-volumes c.args.project.now k rows short in
    omega (arith, c.loop-row.invariant k, most, few)
