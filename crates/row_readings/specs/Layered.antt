-- What the profiles of an instance lay, and what the instance counts for over it.
use Rattle.std.specs.Prelude.{ℕ, List, map}
use Rattle.expansion.specs.Layers.{laid, expanded}
use Rattle.expansion.specs.declared.expanded.Expanded.{Expanded}
use Rattle.project_limits.specs.Instance.{instance_amounts}
use Rattle.project_limits.specs.Pools.{root_part}
use Rattle.records.specs.declared.rows.Instance.{Instance}
use Rattle.records.specs.declared.rows.Profile.{Profile}
use Rattle.row_machine.specs.machine.Expansions.{layer_of, own_layer}
use Rattle.row_machine.specs.machine.Rows.{profile_named}
use Rattle.size_values.specs.declared.amounts.Amounts.{Amounts}
use Rattle.size_values.specs.declared.pool_part.PoolPart.{PoolPart}

-- the profiles of these names in one project, laid in their order
abbrev pub profiles_of : List Profile → List ℕ → List (List ℕ) → Expanded
profiles_of profiles home names = expanded (map (λ name. layer_of (profile_named profiles home name)) names)

-- what an instance has on the pool of its root disk, with its own devices over those below
abbrev pub root_over : Expanded → Instance → PoolPart
root_over below row = root_part (laid below (own_layer row)).devices

-- what an instance counts for with its own settings and devices over those below
abbrev pub amounts_over : Expanded → Instance → Amounts
amounts_over below row = counted (laid below (own_layer row)) where
  counted : Expanded → Amounts
  counted expanded = instance_amounts row.kind expanded.config expanded.devices
