-- The limits of the project of a name, on pools too.
use Rattle.std.proofs.Common.{◌≡◌, ℕ, ◌==◌, Bool, true, false, not, ◌||◌, Option, Some, None, List, [], ◌∷◌, length, refl, sym, ap, ap₂, ◌∙◌, arith}
use Rattle.std.specs.Option.{option_map, option_map_or}
use Rattle.std.proofs.lemmas.Bool.{eqb-true}
use Rattle.std.proofs.lemmas.List.{length-map}
use Rattle.plain_lists.specs.Members.{Each}
use Rattle.plain_lists.proofs.Elements.{Each-none}
use Rattle.plain_lists.proofs.Searches.{find-some}
use Rattle.config_lists.proofs.Keys.{same}
use Rattle.project_limits.specs.Limits.{limits_of}
use Rattle.project_limits.specs.Pools.{limited_pools}
use Rattle.project_limits.specs.declared.limits.Limits.{Limits}
use Rattle.project_limits.proofs.PoolKeys.{pools-no}
use Rattle.records.specs.declared.rows.Project.{Project}
use Rattle.row_machine.specs.machine.Rows.{is_project, project_named}
use Rattle.row_readings.specs.PoolLimits.{limit_of, own_limits}
use Rattle.row_readings.specs.declared.pool_limits.PoolLimit.{PoolLimit}
use Rattle.row_readings.proofs.LimitedPools.{each-own}
use Rattle.rules_limits.specs.AllProjects.{is_limited, limits_any}
use Rattle.rules_limits.specs.Limited.{has_limits, limits_named, pools_named}
use Rattle.rules_limits.proofs.Unlimited.{neither}

-- each limit on a pool is of its project
pub each-named : (ps : List Project) (name : List ℕ) → Each (λ (l : PoolLimit). l.project ≡ name) (pools_named ps name)
each-named ps name = at (project_named ps name) refl where
  at : (o : Option Project) → project_named ps name ≡ o → Each (λ (l : PoolLimit). l.project ≡ name) (option_map_or own_limits o [])
  at None found = Each-none
  at (Some p) found = each-own p name (same p.name name (find-some (is_project name) ps p found).1)

-- ---- none is set

empty : {X : Type 0} (xs : List X) → length xs ≡ 0 → xs ≡ []
empty [] e = refl
empty (x ∷ xs) e = absurd (omega (arith, e))

not-not : (b : Bool) → not b ≡ false → b ≡ true
not-not true e = refl
not-not false e = cc

-- no limits, and no pools
pub no-pools : (limits : Option Limits) (pools : List PoolLimit) → (option_map_or limits_any limits false || not (length pools == 0)) ≡ false → length pools ≡ 0
no-pools limits pools none =
    let is : (length pools == 0) ≡ true = not-not (length pools == 0) (neither (option_map_or limits_any limits false) (not (length pools == 0)) none).1 in
    eqb-true (length pools) 0 is

pub none-set : (ps : List Project) (name : List ℕ) (limits : Option Limits) (pools : List PoolLimit)
    → limits ≡ limits_named ps name → pools ≡ pools_named ps name
    → (option_map_or limits_any limits false || not (length pools == 0)) ≡ false → has_limits ps name ≡ false
none-set ps name limits pools are pools_are none = at (project_named ps name)
    (ap (λ l. option_map_or limits_any l false) (sym are) ∙ (neither (option_map_or limits_any limits false) (not (length pools == 0)) none).0)
    (ap (length) (sym pools_are) ∙ no-pools limits pools none) where
      at : (o : Option Project) → option_map_or limits_any (option_map (λ p. limits_of p.config) o) false ≡ false
          → length (option_map_or own_limits o []) ≡ 0 → option_map_or is_limited o false ≡ false
      at None free few = refl
      at (Some p) free few =
          let own : limited_pools p.config ≡ [] = empty (limited_pools p.config) (sym (length-map (limited_pools p.config) (limit_of p)) ∙ few) in
          ap₂ (λ a b. a || b) free (pools-no p.config own)
