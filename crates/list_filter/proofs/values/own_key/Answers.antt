use Rattle.std.proofs.Common.{codes}
use Rattle.project_limits.proofs.PoolKeys.{stripped}
use Rattle.list_filter.proofs.values.own_key.Goals as goal

pub returns : goal.returns
returns c = stripped (codes "config.") c.args.field.now c.strip_prefix.result c.strip_prefix.ensures.cases
