-- What is used of pools that a project limits, as it is shown.
use Rattle.std.specs.Prelude.{ℕ, List, [], ◌∷◌}
use Rattle.records.specs.declared.replies.LimitKeyName.TheVariants as line
use Rattle.records.specs.declared.replies.UsageLine.{UsageLine}
use Rattle.row_readings.specs.declared.pool_limits.PoolLimit.{PoolLimit}

-- the limit on a pool with what is used of it
abbrev pub limited_line : PoolLimit → ℕ → UsageLine
limited_line limit used = record { key = line.DiskOnPool limit.pool; used = used; limit = limit.limit }

-- each limit with what is used of it, at its place
abbrev pub limited_lines : List PoolLimit → List ℕ → List UsageLine
limited_lines (limit ∷ limits) (used ∷ uses) = limited_line limit used ∷ limited_lines limits uses
limited_lines limits uses = []
