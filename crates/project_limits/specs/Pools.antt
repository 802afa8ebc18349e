-- The limits of a project on storage pools, what rows have on pools, and which have no size on a limited one.
use Rattle.std.specs.Prelude.{ℕ, ◌+◌, Bool, List, ◌++◌, Option, Some, None, codes, drop, is_none, is_some, length}
use Rattle.std.specs.Prelude.{nat_eq, nat_le, option_and_then, unwrap_or, if◌then◌else◌}
use Rattle.std.specs.List.{filter_map, list_any, starts_with}
use Rattle.std.specs.Map.{keys_of}
use Rattle.std.specs.Option.{option_map_or}
use Rattle.size_values.specs.PoolParts.{no_part}
use Rattle.size_values.specs.declared.pool_part.PoolPart.{PoolPart}
use Rattle.config_lists.specs.Devices.{NamedDevices, root_of}
use Rattle.config_lists.specs.Settings.{Settings, setting}
use Rattle.project_limits.specs.Instance.{disk_at, disk_in}
use Rattle.project_limits.specs.Limits.{size_in}

-- how the keys of limits on pools begin; the name of the pool follows
abbrev pub pool_key_front : List ℕ
pool_key_front = codes "limits.disk.pool."

-- the key of the limit on a pool
abbrev pub pool_key : List ℕ → List ℕ
pool_key pool = pool_key_front ++ pool

-- whether a key is one of a limit on a pool
abbrev pub is_pool_key : List ℕ → Bool
is_pool_key key = starts_with nat_eq key pool_key_front

-- the pool that a key limits, if it is such a key
abbrev pub pool_of_key : List ℕ → Option (List ℕ)
pool_of_key key = if is_pool_key key then Some (drop (length pool_key_front) key) else None

-- the limit of a project on a pool, if it is set
unfoldable pub pool_limit : Settings → List ℕ → Option ℕ
pool_limit project pool = size_in project (pool_key pool)

-- the pools that have a key in a project's settings, in the order of their names
unfoldable pub limited_pools : Settings → List (List ℕ)
limited_pools project = filter_map pool_of_key (keys_of project)

-- whether there are such keys
unfoldable pub limits_pools : Settings → Bool
limits_pools project = list_any is_pool_key (keys_of project)

-- the pool of the one root disk, if there is one and it names a pool
unfoldable pub root_pool : NamedDevices → Option (List ℕ)
root_pool devices = option_and_then (λ disk. setting disk (codes "pool")) (disk_at devices (root_of devices))

-- what an instance has on a pool: the size of its one root disk, on the pool of this disk
unfoldable pub root_part : NamedDevices → PoolPart
root_part devices =
    option_map_or (λ pool. record { pool = pool; disk = unwrap_or (disk_in devices) 0 }) (root_pool devices) no_part

-- what a volume has on its pool: its size
unfoldable pub sized_part : List ℕ → Settings → PoolPart
sized_part pool config = record { pool = pool; disk = unwrap_or (size_in config (codes "size")) 0 }

-- a pool, if the project limits it
abbrev pub if_limited : Settings → List ℕ → Option (List ℕ)
if_limited project pool = if is_some (pool_limit project pool) then Some pool else None

-- the limited pool on which an instance has a root disk without a size
unfoldable pub pool_without_size : Settings → NamedDevices → Option (List ℕ)
pool_without_size project devices =
    if is_some (disk_in devices) then None else option_and_then (if_limited project) (root_pool devices)

-- the limited pool on which a volume has no size
unfoldable pub volume_pool_without_size : Settings → List ℕ → Settings → Option (List ℕ)
volume_pool_without_size project pool config =
    if is_some (size_in config (codes "size")) then None else if_limited project pool

-- what counts for limits on pools gives a number
abbrev pub pool_countable : Settings → NamedDevices → Bool
pool_countable project devices = is_none (pool_without_size project devices)

abbrev pub pool_volume_countable : Settings → List ℕ → Settings → Bool
pool_volume_countable project pool config = is_none (volume_pool_without_size project pool config)

-- what is used of a pool and what is asked for are together at most its limit
abbrev pub fits_on_pool : ℕ → ℕ → ℕ → Bool
fits_on_pool limit used asked = nat_le (used + asked) limit
