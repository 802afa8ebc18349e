use Rattle.std.proofs.Common.{◌++◌, map, sym, ap, ap₂, ◌∙◌, subst}
use Rattle.std.specs.List.{filter_map}
use Rattle.row_machine.specs.machine.State.{State}
use Rattle.row_machine.specs.machine.Usage.{loads, instance_load, volume_load, claim_load}
use Rattle.row_readings.specs.Loads.{AreSmall}
use Rattle.row_readings.proofs.Small.{small-loads}
use Rattle.row_readings.proofs.amounts.loads.Goals as goal

pub returns-clause-loads : goal.returns-clause-loads
unfolding loads
returns-clause-loads c =
    let s = c.args.view.now in
    c.in_ok-add_claims.ensures
    ∙ ap₂ (λ all live. all ++ filter_map (λ o. claim_load s o.work) live)
    (c.in_ok-add_volumes.ensures
    ∙ ap₂ (λ all rows. all ++ map volume_load rows)
    (c.in_ok-add_instances.ensures
    ∙ ap₂ (λ all rows. all ++ map (instance_load s) rows) c.new-all.ensures.items (ap (λ (t : State). t.instances) c.view.view_is))
    (ap (λ (t : State). t.volumes) c.view.view_is))
    (ap (λ (t : State). t.operations.live) c.view.view_is)

pub returns-clause-small : goal.returns-clause-small
returns-clause-small c = subst AreSmall (sym (returns-clause-loads c)) (small-loads c.args.view.now)
