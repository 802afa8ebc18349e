use Rattle.std.proofs.Common.{◌∙◌, sym}
use Rattle.std.specs.Map.{keys_of}
use Rattle.std.proofs.lemmas.Map.Keys.{any_passes_from_place}
use Rattle.project_limits.specs.Pools.{is_pool_key, limits_pools}
use Rattle.project_limits.proofs.Unlimited.{fails-more}
use Rattle.project_limits.proofs.pools.limits_pools.Goals as goal

pub returns-then-is_pool_key : goal.returns-then-is_pool_key
unfolding limits_pools
returns-then-is_pool_key c =
    sym (any_passes_from_place is_pool_key (keys_of c.args.project.now) c.loop-place.place c.key_at.result.now c.key_at.ensures (sym c.is_pool_key.ensures ∙ c.if-is_pool_key.true))

pub loop-place-preserved : goal.loop-place-preserved
loop-place-preserved c =
    c.loop-place.invariant
    ∙ fails-more is_pool_key (keys_of c.args.project.now) c.loop-place.place c.key_at.result.now c.key_at.ensures (sym c.is_pool_key.ensures ∙ c.if-is_pool_key.false)
