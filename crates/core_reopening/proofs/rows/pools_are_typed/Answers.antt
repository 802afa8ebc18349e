use Rattle.records.specs.declared.rows.Pool.{Pool}
use Rattle.records.specs.declared.rows.Row.TheVariants as row
use Rattle.row_codec.specs.Rows.{HasTypedParts}
use Rattle.core_reopening.proofs.Typed.{each-all, each-next}
use Rattle.core_reopening.proofs.rows.pools_are_typed.Goals as goal

pub loop-pool-preserved : goal.loop-pool-preserved
loop-pool-preserved c =
    each-next (λ (r : Pool). HasTypedParts (row.Pool r)) c.args.pools.now c.loop-pool.pool-index c.pool-item.result c.loop-pool-test.true c.pool-item.is
    c.pool_is_typed.ensures c.loop-pool.invariant

pub returns : goal.returns
returns c =
    each-all (λ (r : Pool). HasTypedParts (row.Pool r)) c.args.pools.now c.loop-pool.pool-index c.loop-pool-test.false c.loop-pool.invariant
