use Rattle.std.proofs.Common.{◌≡◌, ◌+◌, get_or, sym, ap, ap₂, ◌∙◌, arith}
use Rattle.std.proofs.lemmas.List.Sums.{sum_by_more_le, sum_by_more, sum_by-take-le}
use Rattle.size_values.specs.Amounts.{part}
use Rattle.size_values.proofs.AmountParts.{part-plus}
use Rattle.row_machine.specs.machine.Usage.{amount_for}
use Rattle.row_readings.proofs.Totals.{sum-small}
use Rattle.row_readings.proofs.amounts.usage_in.Goals as goal

pub plus-used-requires : goal.plus-used-requires
plus-used-requires c = λ k.
    let all = c.args.loads.now in
    let one : part k c.amounts_for.result ≡ amount_for c.args.project.now k (get_or all c.loop-load.load-index c.load-item.result) =
    c.amounts_for.ensures k ∙ ap (amount_for c.args.project.now k) c.load-item.is
    in
    omega (
      arith,
      one,
      c.loop-load.invariant k,
      sum_by_more_le (amount_for c.args.project.now k) all c.loop-load.load-index c.load-item.result c.loop-load-test.true,
      sum-small c.args.project.now k all c.requires,
      c.well_formed.0.1,
    )

pub loop-load-preserved : goal.loop-load-preserved
loop-load-preserved c = λ k.
    let counts = amount_for c.args.project.now k in
    ap (part k) c.plus-used.ensures ∙ part-plus k c.loop-load.used c.amounts_for.result
    ∙ ap₂ (λ m n. m + n) (c.loop-load.invariant k) (c.amounts_for.ensures k ∙ ap counts c.load-item.is)
    ∙ sym (sum_by_more counts c.args.loads.now c.loop-load.load-index c.load-item.result c.loop-load-test.true)

pub returns-clause-few : goal.returns-clause-few
returns-clause-few c = λ k.
    omega (
      arith,
      c.loop-load.invariant k,
      sum_by-take-le (amount_for c.args.project.now k) c.args.loads.now c.loop-load.load-index,
      sum-small c.args.project.now k c.args.loads.now c.requires,
      c.well_formed.0.1,
    )
