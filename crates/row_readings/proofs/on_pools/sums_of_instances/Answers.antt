use Rattle.std.proofs.Common.{◌≡◌, get_or, ◌<◌, ◌^◌, filter, length, map, refl, sym, ap, subst, ◌∙◌, arith}
use Rattle.std.specs.Str.{bytes_eq}
use Rattle.std.proofs.lemmas.List.{take_all}
use Rattle.expansion.specs.Layers.{expanded}
use Rattle.records.specs.declared.rows.Instance.{Instance}
use Rattle.row_machine.specs.machine.Usage.{instance_load}
use Rattle.row_readings.specs.PoolLimits.{added, pool_sums, AreSums}
use Rattle.row_readings.proofs.OwnPools.{all-instances, instances-sums, root-over}
use Rattle.row_readings.proofs.PoolLines.{next-failing, next-passing, no-sums}
use Rattle.row_readings.proofs.on_pools.sums_of_instances.Goals as goal

pub loop-row-init : goal.loop-row-init
unfolding expanded
loop-row-init c = (c.requires.bare, c.in_ok-sums.ensures ∙ no-sums c.args.limits.now)

pub add_root-requires-clause-sums : goal.add_root-requires-clause-sums
add_root-requires-clause-sums c =
    let rows = c.args.rows.now in
    let short : length rows < 2 ^ 63 = omega (arith, c.well_formed.1.1.0.1) in
    subst (AreSums c.args.limits.now) (sym c.loop-row.invariant.1)
    (instances-sums c.args.view.now c.args.limits.now (λ row. bytes_eq row.project c.args.project.now) rows c.loop-row.row-index (omega (arith, c.loop-row-test.true)) short)

-- an instance of another project is passed over
pub loop-row-preserved-then-not-is_of : goal.loop-row-preserved-then-not-is_of
loop-row-preserved-then-not-is_of c =
    let own = λ (row : Instance). bytes_eq row.project c.args.project.now in (
      c.loop-row.invariant.0,
      c.loop-row.invariant.1
          ∙ next-failing c.args.limits.now (instance_load c.args.view.now) own c.args.rows.now c.loop-row.row-index c.deref-row.result.now c.loop-row-test.true
          (subst (λ (r : Instance). r ≡ get_or c.args.rows.now c.loop-row.row-index r) (sym c.deref-row.ensures) c.row-item.is) (sym c.is_of.ensures ∙ c.if-not-is_of.true),
    )

pub loop-row-preserved : goal.loop-row-preserved
loop-row-preserved c = (
  c.in_ok-lay_again.ensures,
  let s = c.args.view.now in
      let own = λ (row : Instance). bytes_eq row.project c.args.project.now in
      let row = c.deref-row.result.now in
      let here = sym c.if-not-is_of.ensures in
      let part = root-over s c.args.project.now row s.projects s.profiles c.profile_home-home.result.now c.view-names.result.now c.lay_again.new.expanded
      here refl refl c.profile_home-home.ensures c.view-names.ensures c.in_ok-lay_again.ensures in
      c.in_ok-add_root.ensures
      ∙ (λ i. added c.args.limits.now row.project (part i) (c.loop-row.invariant.1 i))
      ∙ next-passing c.args.limits.now (instance_load s) own c.args.rows.now c.loop-row.row-index row c.loop-row-test.true
      (subst (λ (r : Instance). r ≡ get_or c.args.rows.now c.loop-row.row-index r) (sym c.deref-row.ensures) c.row-item.is) c.requires.rising here,
)

pub returns-clause-table : goal.returns-clause-table
returns-clause-table c =
    let own = λ (row : Instance). bytes_eq row.project c.args.project.now in
    c.loop-row.invariant.1
    ∙ ap (λ rows. pool_sums (map (instance_load c.args.view.now) (filter own rows)) c.args.limits.now)
    (take_all c.loop-row.row-index c.args.rows.now (omega (arith, c.loop-row-test.false)))

pub returns-clause-sums : goal.returns-clause-sums
returns-clause-sums c =
    let rows = c.args.rows.now in
    let short : length rows < 2 ^ 63 = omega (arith, c.well_formed.1.1.0.1) in
    subst (AreSums c.args.limits.now) (sym (returns-clause-table c))
    (all-instances c.args.view.now c.args.limits.now (λ row. bytes_eq row.project c.args.project.now) rows short)
