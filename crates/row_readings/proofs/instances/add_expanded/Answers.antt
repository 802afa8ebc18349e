use Rattle.std.proofs.Common.{◌<◌, ◌^◌, length, refl, sym, ap, ◌∙◌, arith}
use Rattle.std.proofs.lemmas.List.Sums.{sum_by_more_le, sum_by_more, sum_by-take-le}
use Rattle.expansion.specs.Layers.{expanded}
use Rattle.size_values.specs.Amounts.{part}
use Rattle.size_values.proofs.AmountParts.{part-plus}
use Rattle.row_readings.specs.Counted.{instance_part}
use Rattle.row_readings.proofs.Over.{counted-over}
use Rattle.row_readings.proofs.Parts.{few-instances}
use Rattle.row_readings.proofs.instances.add_expanded.Goals as goal

pub loop-row-init : goal.loop-row-init
unfolding expanded
loop-row-init c = (c.requires.bare, λ k. omega arith)

pub plus-sum-requires : goal.plus-sum-requires
plus-sum-requires c = λ k.
    let s = c.args.view.now in
    let project = c.args.project.now in
    let counts = instance_part s project k in
    let rows = c.args.rows.now in
    let item = c.row-item.result in
    let one =
    counted-over s project k c.deref-row.result.now s.projects s.profiles c.profile_home-home.result.now c.view-names.result.now c.lay_again.new.expanded c.in_ok-more.more
    (sym c.if-not-is_of.ensures) refl refl
    c.profile_home-home.ensures c.view-names.ensures c.in_ok-lay_again.ensures c.in_ok-more.ensures
    ∙ ap counts (c.deref-row.ensures ∙ c.row-item.is)
    in
    let short : length rows < 2 ^ 63 = omega (arith, c.well_formed.1.1.0.1) in
    let most = sum_by_more_le counts rows c.loop-row.row-index item c.loop-row-test.true in
    let few = few-instances s project k rows short in
    omega (arith, c.loop-row.invariant.1 k, one, most, few, c.requires.used k)

pub loop-row-preserved : goal.loop-row-preserved
loop-row-preserved c = (
  c.in_ok-lay_again.ensures,
  λ k.
      let s = c.args.view.now in
      let project = c.args.project.now in
      let counts = instance_part s project k in
      let rows = c.args.rows.now in
      let item = c.row-item.result in
      let one =
      counted-over s project k c.deref-row.result.now s.projects s.profiles c.profile_home-home.result.now c.view-names.result.now c.lay_again.new.expanded c.in_ok-more.more
      (sym c.if-not-is_of.ensures) refl refl
      c.profile_home-home.ensures c.view-names.ensures c.in_ok-lay_again.ensures c.in_ok-more.ensures
      ∙ ap counts (c.deref-row.ensures ∙ c.row-item.is)
      in
      let more = sum_by_more counts rows c.loop-row.row-index item c.loop-row-test.true in
      ap (part k) c.plus-sum.ensures ∙ part-plus k c.loop-row.sum c.in_ok-more.more ∙ omega (arith, c.loop-row.invariant.1 k, one, more),
)

pub returns-clause-few : goal.returns-clause-few
returns-clause-few c = λ k.
    let counts = instance_part c.args.view.now c.args.project.now k in
    let rows = c.args.rows.now in
    let short : length rows < 2 ^ 63 = omega (arith, c.well_formed.1.1.0.1) in
    let most = sum_by-take-le counts rows c.loop-row.row-index in
    let few = few-instances c.args.view.now c.args.project.now k rows short in
    omega (arith, c.loop-row.invariant.1 k, most, few)
