-- The limits on pools, each with what is used of it before and after a change.
use Rattle.std.specs.Prelude.{ℕ, List, Option}
use Rattle.std.specs.List.{zip}
use Rattle.plain_lists.specs.Firsts.{first_of}
use Rattle.records.specs.declared.refusals.Refusal.{Refusal}
use Rattle.row_machine.specs.machine.LimitRules.{pool_limit_exceeded}
use Rattle.row_machine.specs.machine.Usage.{Load}
use Rattle.row_readings.specs.PoolLimits.{pool_sums}
use Rattle.row_readings.specs.declared.pool_limits.PoolLimit.{PoolLimit}

abbrev pub PoolLine : Type 0
PoolLine = PoolLimit × (ℕ × ℕ)

-- each limit with what stands at its place
abbrev pub pool_lines : List PoolLimit → List ℕ → List ℕ → List PoolLine
pool_lines limits before after = zip limits (zip before after)

-- L9 of one pool
abbrev pub pool_line_over : PoolLine → Option Refusal
pool_line_over line = pool_limit_exceeded line.0.project line.0.pool line.0.limit line.1.0 line.1.1

-- the first that is exceeded, by what counts before and after a change
abbrev pub pools_over : List Load → List Load → List PoolLimit → Option Refusal
pools_over before after limits =
    first_of pool_line_over (pool_lines limits (pool_sums before limits) (pool_sums after limits))
