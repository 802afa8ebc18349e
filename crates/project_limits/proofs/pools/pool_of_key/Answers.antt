use Rattle.std.proofs.Common.{codes}
use Rattle.project_limits.proofs.PoolKeys.{stripped}
use Rattle.project_limits.proofs.pools.pool_of_key.Goals as goal

pub returns : goal.returns
returns c = stripped (codes "limits.disk.pool.") c.args.key.now c.strip_prefix.result c.strip_prefix.ensures.cases
