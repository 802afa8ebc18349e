use Rattle.std.proofs.Common.{take}
use Rattle.plain_lists.specs.Members.{Each}
use Rattle.records.specs.declared.rows.Pool.{Pool}
use Rattle.records.specs.declared.rows.Row.TheVariants as row
use Rattle.row_codec.specs.Rows.{HasTypedParts}
use Rattle.core_reopening.proofs.rows.pools_are_typed.Given as goal

abbrev pub invariant-loop-pool : goal.invariant-loop-pool
invariant-loop-pool l = Each (λ (r : Pool). HasTypedParts (row.Pool r)) (take l.pool-index l.pools)
