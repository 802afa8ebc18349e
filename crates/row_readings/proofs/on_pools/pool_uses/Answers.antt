use Rattle.std.proofs.Common.{◌≡◌, filter, map, sym, ap, subst, ◌∙◌}
use Rattle.std.specs.List.{filter_map}
use Rattle.std.specs.Str.{bytes_eq}
use Rattle.std.proofs.lemmas.Result.{IfOk-weaker}
use Rattle.plain_lists.specs.Members.{Each}
use Rattle.operations.specs.declared.operation.Operation.{Operation}
use Rattle.records.specs.declared.rows.Instance.{Instance}
use Rattle.records.specs.declared.rows.Volume.{Volume}
use Rattle.row_machine.specs.facts.Whole.{Rise}
use Rattle.row_machine.specs.machine.State.{State}
use Rattle.row_machine.specs.machine.Task.{Task}
use Rattle.row_machine.specs.machine.Usage.{loads, claim_load, instance_load, volume_load}
use Rattle.row_readings.specs.PoolLimits.{limit_names, pool_sums, together, AreSums}
use Rattle.row_readings.specs.declared.pool_limits.PoolLimit.{PoolLimit}
use Rattle.row_readings.proofs.OwnPools.{own-uses}
use Rattle.row_readings.proofs.on_pools.pool_uses.Goals as goal

pub instance_sums-requires : goal.instance_sums-requires
instance_sums-requires c = subst (Rise limit_names) (sym c.view-lines.ensures.same) c.view-lines.ensures.rising

pub volume_sums-requires : goal.volume_sums-requires
volume_sums-requires c = subst (Rise limit_names) (sym c.view-lines.ensures.same) c.view-lines.ensures.rising

pub claim_sums-requires : goal.claim_sums-requires
claim_sums-requires c = subst (Rise limit_names) (sym c.view-lines.ensures.same) c.view-lines.ensures.rising

pub together-requires-clause-some : goal.together-requires-clause-some
together-requires-clause-some c = subst (AreSums c.view-lines.result.now) (sym c.deref.ensures.value) c.in_ok-of_instances.ensures.sums

pub together-requires-clause-more : goal.together-requires-clause-more
together-requires-clause-more c = subst (AreSums c.view-lines.result.now) (sym c.deref-2.ensures.value) c.in_ok-of_volumes.ensures.sums

pub together-requires-clause-others : goal.together-requires-clause-others
together-requires-clause-others c = subst (AreSums c.view-lines.result.now) (sym c.deref-3.ensures.value) c.in_ok-of_claims.ensures.sums

pub returns : goal.returns
returns c =
    let s = c.args.view.now in
    let project = c.args.project.now in
    let lines = c.view-lines.result.now in
    let own = λ (row : Instance). bytes_eq row.project project in
    let own_volume = λ (row : Volume). bytes_eq row.project project in
    let instances = c.deref.ensures.value ∙ c.in_ok-of_instances.ensures.table
    ∙ ap (λ rows. pool_sums (map (instance_load s) (filter own rows)) lines) (c.rows_of-instances.ensures ∙ ap (λ (t : State). filter own t.instances) c.view.view_is) in
    let volumes = c.deref-2.ensures.value ∙ c.in_ok-of_volumes.ensures.table
    ∙ ap (λ rows. pool_sums (map volume_load rows) lines) (c.rows_of.ensures ∙ ap (λ (t : State). filter own_volume t.volumes) c.view.view_is) in
    let claims = c.deref-3.ensures.value ∙ c.in_ok-of_claims.ensures.table
    ∙ ap (λ (t : State). pool_sums (filter_map (λ (o : Operation Task). claim_load s o.work) t.operations.live) lines) c.view.view_is in
    let of_project = subst (Each (λ (l : PoolLimit). l.project ≡ project)) (sym c.view-lines.ensures.same) c.requires in
    IfOk-weaker c.together.result _ _
    (λ sums made. made ∙ (λ i. together (instances i) (volumes i) (claims i)) ∙ own-uses s project lines of_project ∙ ap (pool_sums (loads s)) c.view-lines.ensures.same)
    c.together.ensures
