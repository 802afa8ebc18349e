-- The pools that projects limit, and what is used of them.
use Rattle.std.specs.Prelude.{◌≡◌, ℕ, ◌+◌, ◌<◌, ◌^◌, ◌==◌, Bool, List, [], ◌∷◌, ◌++◌, All, Option, length, get_or, map, set}
use Rattle.std.specs.Prelude.{if◌then◌else◌, slice_get, option_map, option_and_then}
use Rattle.std.specs.List.{position, sum_by}
use Rattle.std.specs.Map.{keys_of}
use Rattle.std.specs.Option.{option_map_or}
use Rattle.size_values.specs.declared.pool_part.PoolPart.{PoolPart}
use Rattle.project_limits.specs.Pools.{limited_pools, pool_limit, pool_of_key}
use Rattle.records.specs.declared.rows.Project.{Project}
use Rattle.row_machine.specs.machine.Rows.{same_names}
use Rattle.row_machine.specs.machine.Usage.{Load, on_pool_for}
use Rattle.row_readings.specs.declared.pool_limits.PoolLimit.{PoolLimit}

-- what they are named by
abbrev pub limit_names : PoolLimit → List (List ℕ)
limit_names limit = limit.project ∷ limit.pool ∷ []

-- the limit of a project on a pool
abbrev pub limit_of : Project → List ℕ → PoolLimit
limit_of project pool = record { project = project.name; pool = pool; limit = pool_limit project.config pool }

-- by its key, if it is such a key
abbrev pub limit_of_key : Project → List ℕ → Option PoolLimit
limit_of_key project key = option_map (limit_of project) (pool_of_key key)

-- by the key at a place
abbrev pub limit_at : Project → ℕ → Option PoolLimit
limit_at project place = option_and_then (limit_of_key project) (slice_get (keys_of project.config) place)

-- the limits of a project, and of all projects
abbrev pub own_limits : Project → List PoolLimit
own_limits project = map (limit_of project) (limited_pools project.config)

abbrev pub all_limits : List Project → List PoolLimit
all_limits [] = []
all_limits (project ∷ more) = own_limits project ++ all_limits more

-- ---- what is used

-- what loads have on a limited pool, and on each
abbrev pub used_under : List Load → PoolLimit → ℕ
used_under loads limit = sum_by (on_pool_for limit.project limit.pool) loads

abbrev pub pool_sums : List Load → List PoolLimit → List ℕ
pool_sums loads limits = map (used_under loads) limits

-- a line for each limit, and none of them great
pub record AreSums (limits : List PoolLimit) (sums : List ℕ) : Type 0 where
  pub lines : length sums ≡ length limits
  pub low : All (λ sum. sum < 2 ^ 126) sums

-- whether it is the limit of this project on this pool
abbrev pub is_limit : List ℕ → List ℕ → PoolLimit → Bool
is_limit project pool limit = same_names (limit_names limit) (project ∷ pool ∷ [])

-- The sums after one more part of a project: its line grows. Where it has none, it is not limited.
abbrev pub added : List PoolLimit → List ℕ → PoolPart → List ℕ → List ℕ
added limits project part sums = if part.disk == 0 then sums else option_map_or
    (λ place. set sums place (get_or sums place 0 + part.disk)) (position (is_limit project part.pool) limits) sums

-- after one more claim, if it counts
abbrev pub with_claim : List PoolLimit → Option Load → List ℕ → List ℕ
with_claim limits claim sums = option_map_or (λ load. added limits load.project load.on sums) claim sums

-- three sums of each line together
abbrev pub together : List ℕ → List ℕ → List ℕ → List ℕ
together (a ∷ some) (b ∷ more) (c ∷ others) = (a + b + c) ∷ together some more others
together some more others = []
