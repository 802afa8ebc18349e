use Rattle.std.proofs.Common.{filter, ap, ◌∙◌, arith}
use Rattle.std.specs.Str.{bytes_eq}
use Rattle.std.proofs.lemmas.Result.{IfOk-weaker}
use Rattle.size_values.specs.Amounts.{part}
use Rattle.row_machine.specs.machine.State.{State}
use Rattle.row_readings.proofs.Parts.{none-of, usage-summed}
use Rattle.row_readings.proofs.usage.usage_of.Goals as goal

pub returns-clause-usage : goal.returns-clause-usage
returns-clause-usage c =
    IfOk-weaker c.add_claims.result _ _
    (λ all third.
    usage-summed c.args.view.now c.args.project.now c.zero.result c.in_ok-used.used c.add_volumes-used.result all _ _ _ c.zero.ensures
    (c.rows_of-instances.ensures ∙ ap (λ (t : State). filter (λ row. bytes_eq row.project c.args.project.now) t.instances) c.view.view_is)
    (c.rows_of.ensures ∙ ap (λ (t : State). filter (λ row. bytes_eq row.project c.args.project.now) t.volumes) c.view.view_is)
    (ap (λ (t : State). t.operations.live) c.view.view_is)
    c.in_ok-used.ensures.sums c.add_volumes-used.ensures.sums third)
    c.add_claims.ensures.sums

pub returns-clause-few : goal.returns-clause-few
returns-clause-few c =
    IfOk-weaker c.add_claims.result _ _
    (λ all third k. omega (arith, ap (part k) c.zero.ensures, none-of k, c.in_ok-used.ensures.few k, c.add_volumes-used.ensures.few k, third k))
    c.add_claims.ensures.few
