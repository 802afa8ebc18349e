-- Bytes of disk on one storage pool.
use Rattle.std.specs.Prelude.{ℕ, List, [], if◌then◌else◌}
use Rattle.std.specs.Str.{bytes_eq}
use Rattle.size_values.specs.Amounts.{amount_above}
use Rattle.size_values.specs.declared.pool_part.PoolPart.{PoolPart}

-- no bytes of any pool
abbrev pub no_part : PoolPart
no_part = record { pool = []; disk = 0 }

-- what a part has on this pool
abbrev pub on_pool : List ℕ → PoolPart → ℕ
on_pool pool part = if bytes_eq part.pool pool then part.disk else 0

-- by how much a part is above what another one has on its pool, and 0 where it is not
abbrev pub part_above : PoolPart → PoolPart → PoolPart
part_above part other = record part { disk = amount_above part.disk (on_pool part.pool other) }
