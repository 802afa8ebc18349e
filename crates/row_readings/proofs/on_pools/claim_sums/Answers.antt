use Rattle.std.proofs.Common.{◌<◌, ◌^◌, length, sym, ap, subst, ◌∙◌, arith}
use Rattle.std.specs.List.{filter_map}
use Rattle.std.proofs.lemmas.List.{take_all}
use Rattle.operations.specs.declared.operation.Operation.{Operation}
use Rattle.row_machine.specs.machine.Task.{Task}
use Rattle.row_machine.specs.machine.Usage.{claim_load}
use Rattle.row_readings.specs.PoolLimits.{pool_sums, with_claim, AreSums}
use Rattle.row_readings.proofs.OwnPools.{all-claims, claims-sums}
use Rattle.row_readings.proofs.PoolLines.{next-read, no-sums}
use Rattle.row_readings.proofs.on_pools.claim_sums.Goals as goal

pub loop-operation-init : goal.loop-operation-init
loop-operation-init c = c.in_ok-sums.ensures ∙ no-sums c.args.limits.now

pub add_claim-requires-clause-sums : goal.add_claim-requires-clause-sums
add_claim-requires-clause-sums c =
    let live = c.args.live.now in
    let short : length live < 2 ^ 63 = omega (arith, c.well_formed.1.1.0.1) in
    subst (AreSums c.args.limits.now) (sym c.loop-operation.invariant)
    (claims-sums c.args.view.now c.args.limits.now live c.loop-operation.operation-index (omega (arith, c.loop-operation-test.true)) short)

pub loop-operation-preserved : goal.loop-operation-preserved
loop-operation-preserved c =
    let s = c.args.view.now in
    let claim = λ (o : Operation Task). claim_load s o.work in
    let o = c.operation-item.result in
    c.in_ok-add_claim.ensures ∙ ap (with_claim c.args.limits.now (claim_load s o.work)) c.loop-operation.invariant
    ∙ next-read c.args.limits.now claim c.args.live.now c.loop-operation.operation-index o c.requires c.loop-operation-test.true c.operation-item.is

pub returns-clause-table : goal.returns-clause-table
returns-clause-table c =
    c.loop-operation.invariant
    ∙ ap (λ os. pool_sums (filter_map (λ (o : Operation Task). claim_load c.args.view.now o.work) os) c.args.limits.now)
    (take_all c.loop-operation.operation-index c.args.live.now (omega (arith, c.loop-operation-test.false)))

pub returns-clause-sums : goal.returns-clause-sums
returns-clause-sums c =
    let short : length c.args.live.now < 2 ^ 63 = omega (arith, c.well_formed.1.1.0.1) in
    subst (AreSums c.args.limits.now) (sym (returns-clause-table c)) (all-claims c.args.view.now c.args.limits.now c.args.live.now short)
