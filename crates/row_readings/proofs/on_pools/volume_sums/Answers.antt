use Rattle.std.proofs.Common.{◌≡◌, get_or, ◌<◌, ◌^◌, length, map, sym, ap, subst, ◌∙◌, arith}
use Rattle.std.proofs.lemmas.List.{take_all}
use Rattle.records.specs.declared.rows.Volume.{Volume}
use Rattle.row_machine.specs.machine.Claims.{part_of_volume}
use Rattle.row_machine.specs.machine.Usage.{volume_load}
use Rattle.row_readings.specs.PoolLimits.{added, pool_sums, AreSums}
use Rattle.row_readings.proofs.OwnPools.{all-volumes, volumes-sums}
use Rattle.row_readings.proofs.PoolLines.{next-sums, no-sums}
use Rattle.row_readings.proofs.on_pools.volume_sums.Goals as goal

pub loop-row-init : goal.loop-row-init
loop-row-init c = c.in_ok-sums.ensures ∙ no-sums c.args.limits.now

pub add_volume-requires-clause-sums : goal.add_volume-requires-clause-sums
add_volume-requires-clause-sums c =
    let rows = c.args.rows.now in
    let short : length rows < 2 ^ 63 = omega (arith, c.well_formed.1.0.1) in
    subst (AreSums c.args.limits.now) (sym c.loop-row.invariant)
    (volumes-sums c.args.limits.now rows c.loop-row.row-index (omega (arith, c.loop-row-test.true)) short)

pub loop-row-preserved : goal.loop-row-preserved
loop-row-preserved c =
    let row = c.deref.result.now in
    c.add_volume.ensures ∙ ap (added c.args.limits.now row.project (part_of_volume row)) c.loop-row.invariant
    ∙ next-sums c.args.limits.now volume_load c.args.rows.now c.loop-row.row-index row c.requires c.loop-row-test.true (subst (λ (r : Volume). r ≡ get_or c.args.rows.now c.loop-row.row-index r) (sym c.deref.ensures) c.row-item.is)

pub returns-clause-table : goal.returns-clause-table
returns-clause-table c =
    c.loop-row.invariant
    ∙ ap (λ rows. pool_sums (map volume_load rows) c.args.limits.now) (take_all c.loop-row.row-index c.args.rows.now (omega (arith, c.loop-row-test.false)))

pub returns-clause-sums : goal.returns-clause-sums
returns-clause-sums c =
    let short : length c.args.rows.now < 2 ^ 63 = omega (arith, c.well_formed.1.0.1) in
    subst (AreSums c.args.limits.now) (sym (returns-clause-table c)) (all-volumes c.args.limits.now c.args.rows.now short)
