use Rattle.std.proofs.Common.{◌≡◌, ◌<◌, ◌^◌, length, take, get_or, sym, ap, subst, ◌∙◌, arith}
use Rattle.std.proofs.lemmas.List.{length-take-le, take_all}
use Rattle.std.proofs.lemmas.List.Elements.{All-get_or, All-take}
use Rattle.row_machine.specs.facts.Whole.{Rise}
use Rattle.row_machine.specs.machine.Usage.{Load}
use Rattle.row_readings.specs.Loads.{IsSmall}
use Rattle.row_readings.specs.PoolLimits.{limit_names, pool_sums, added, AreSums}
use Rattle.row_readings.proofs.PoolLines.{are-sums, no-sums, next-loads}
use Rattle.row_readings.proofs.on_pools.pool_sums.Goals as goal

pub loop-load-init : goal.loop-load-init
loop-load-init c = c.in_ok-sums.ensures ∙ no-sums c.view-lines.result.now

pub add_to_line-requires-clause-rising : goal.add_to_line-requires-clause-rising
add_to_line-requires-clause-rising c = subst (Rise limit_names) (sym c.view-lines.ensures.same) c.view-lines.ensures.rising

pub add_to_line-requires-clause-sums : goal.add_to_line-requires-clause-sums
add_to_line-requires-clause-sums c =
    let loads = c.args.loads.now in
    let i = c.loop-load.load-index in
    let within : length loads < 2 ^ 63 = omega (arith, c.well_formed.1.0.1) in
    subst (AreSums c.view-lines.result.now) (sym c.loop-load.invariant)
    (are-sums c.view-lines.result.now (take i loads) (All-take IsSmall i loads c.requires)
    (omega (arith, within, c.loop-load-test.true, length-take-le i loads (omega (arith, c.loop-load-test.true)))))

pub add_to_line-requires-clause-small : goal.add_to_line-requires-clause-small
add_to_line-requires-clause-small c =
    let loads = c.args.loads.now in
    let i = c.loop-load.load-index in
    let item = c.load-item.result in
    let small : c.load.inside.on.disk < 2 ^ 63 =
    subst (λ (l : Load). l.on.disk < 2 ^ 63) (sym c.load-item.is ∙ sym c.load.view_is) (All-get_or IsSmall loads i item c.loop-load-test.true c.requires).on in
    omega (arith, small)

pub loop-load-preserved : goal.loop-load-preserved
loop-load-preserved c =
    let loads = c.args.loads.now in
    let limits = c.view-lines.result.now in
    let i = c.loop-load.load-index in
    let load : Load = record { project = c.load.inside.project; amounts = c.load.inside.amounts; on = c.load.inside.on } in
    let is : load ≡ get_or loads i load = subst (λ l. l ≡ get_or loads i l) (sym c.load.view_is) c.load-item.is in
    let rising = subst (Rise limit_names) (sym c.view-lines.ensures.same) c.view-lines.ensures.rising in
    c.add_to_line.ensures
    ∙ (λ j. added limits (c.view.ensures.value j) (record { pool = c.view-in-loop-load.ensures.value j; disk = load.on.disk }) (c.loop-load.invariant j))
    ∙ next-loads limits loads i load rising c.loop-load-test.true is

pub returns : goal.returns
returns c =
    c.from_vec.ensures ∙ c.loop-load.invariant
    ∙ ap (λ ls. pool_sums ls c.view-lines.result.now) (take_all c.loop-load.load-index c.args.loads.now (omega (arith, c.loop-load-test.false)))
    ∙ ap (pool_sums c.args.loads.now) c.view-lines.ensures.same
