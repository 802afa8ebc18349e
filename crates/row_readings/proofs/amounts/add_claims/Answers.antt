use Rattle.std.proofs.Common.{◌++◌, ap, ◌∙◌}
use Rattle.std.specs.Option.{option_to_list}
use Rattle.row_machine.specs.machine.Usage.{claim_load}
use Rattle.row_readings.proofs.Totals.{read-next}
use Rattle.row_readings.proofs.amounts.add_claims.Goals as goal

pub loop-operation-preserved : goal.loop-operation-preserved
loop-operation-preserved c =
    let s = c.args.view.now in
    let index = c.loop-operation.operation-index in
    let o = c.operation-item.result in
    c.in_ok-add_claim.ensures
    ∙ ap (λ all. all ++ option_to_list (claim_load s o.work)) c.loop-operation.invariant
    ∙ read-next (λ p. claim_load s p.work) c.args.all.now.items c.args.live.now index o c.loop-operation-test.true c.operation-item.is
