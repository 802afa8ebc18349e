-- A share of a project without a limit exceeds none, whatever is used beside it.
use Rattle.std.proofs.Common.{◌≡◌, ℕ, ◌+◌, ◌==◌, true, false, cond, Option, Some, None, List, refl, sym, ap, ◌∙◌}
use Rattle.std.specs.Prelude.{is_some}
use Rattle.std.specs.Option.{option_and_then, option_map, option_map_or, option_or}
use Rattle.project_limits.specs.Limits.{limits_of}
use Rattle.project_limits.specs.Pools.{pool_limit}
use Rattle.project_limits.specs.declared.limits.Limits.{Limits}
use Rattle.records.specs.declared.rows.Project.{Project}
use Rattle.row_machine.specs.machine.LimitRules.{pool_limit_exceeded}
use Rattle.row_machine.specs.machine.Rows.{project_named}
use Rattle.size_values.specs.Amounts.{nothing, fits_in, plus_of}
use Rattle.size_values.specs.declared.amounts.Amounts.{Amounts}
use Rattle.size_values.specs.declared.pool_part.PoolPart.{PoolPart}
use Rattle.row_readings.specs.declared.amounts.Footprint.{Footprint}
use Rattle.rules_limits.specs.AllProjects.{limits_any}
use Rattle.rules_limits.specs.Limited.{limits_named}
use Rattle.rules_limits.specs.OneProject.{amounts_over, asked_over, part_over, of_project, limit_on_pool, share_broken}
use Rattle.rules_limits.specs.declared.one_operation.Beside.{Beside}
use Rattle.rules_limits.proofs.Unlimited.{unlimited-amounts}

-- ---- amounts

module _ (projects : List Project) (name : List ℕ) (a b asked : Amounts) where
  -- amounts that are nothing
  pub nothing-beside : fits_in asked nothing ≡ true → of_project (asked_over a asked) projects name ≡ of_project (asked_over b asked) projects name
  nothing-beside is = at (project_named projects name) where
    at : (o : Option Project) → option_and_then (asked_over a asked) o ≡ option_and_then (asked_over b asked) o
    at None = refl
    at (Some p) =
        ap (λ t. cond t None (amounts_over a (plus_of a asked) p)) is
        ∙ sym (ap (λ t. cond t None (amounts_over b (plus_of b asked) p)) is)

  -- or those of a project without a limit
  pub unlimited-beside : (limits : Option Limits) → limits ≡ limits_named projects name → option_map_or limits_any limits false ≡ false
      → of_project (asked_over a asked) projects name ≡ of_project (asked_over b asked) projects name
  unlimited-beside limits are free =
      at (project_named projects name) (ap (λ l. option_map_or limits_any l false) (sym are) ∙ free) where
        at : (o : Option Project) → option_map_or limits_any (option_map (λ p. limits_of p.config) o) false ≡ false
            → option_and_then (asked_over a asked) o ≡ option_and_then (asked_over b asked) o
        at None none = refl
        at (Some p) none =
            ap (cond (fits_in asked nothing) None) (unlimited-amounts p none a (plus_of a asked))
            ∙ sym (ap (cond (fits_in asked nothing) None) (unlimited-amounts p none b (plus_of b asked)))

-- ---- a part on a pool

module _ (projects : List Project) (name : List ℕ) (m n : ℕ) (part : PoolPart) where
  -- one that is nothing
  pub nothing-on_pool : (part.disk == 0) ≡ true → of_project (part_over m part) projects name ≡ of_project (part_over n part) projects name
  nothing-on_pool is = at (project_named projects name) where
    at : (o : Option Project) → option_and_then (part_over m part) o ≡ option_and_then (part_over n part) o
    at None = refl
    at (Some p) =
        ap (λ t. cond t None (pool_limit_exceeded p.name part.pool (pool_limit p.config part.pool) m (m + part.disk))) is
        ∙ sym (ap (λ t. cond t None (pool_limit_exceeded p.name part.pool (pool_limit p.config part.pool) n (n + part.disk))) is)

  -- or one of a project without a limit there
  pub unlimited-on_pool : (limit : Option ℕ) → limit ≡ limit_on_pool projects name part.pool → is_some limit ≡ false
      → of_project (part_over m part) projects name ≡ of_project (part_over n part) projects name
  unlimited-on_pool limit are free = at (project_named projects name) (ap is_some (sym are) ∙ free) where
    unset : (o : Option ℕ) → is_some o ≡ false → o ≡ None
    unset None e = refl
    unset (Some l) e = cc

    at : (o : Option Project) → is_some (option_and_then (λ p. pool_limit p.config part.pool) o) ≡ false
        → option_and_then (part_over m part) o ≡ option_and_then (part_over n part) o
    at None none = refl
    at (Some p) none =
        let gone = unset (pool_limit p.config part.pool) none in
        ap (λ l. cond (part.disk == 0) None (pool_limit_exceeded p.name part.pool l m (m + part.disk))) gone
        ∙ sym (ap (λ l. cond (part.disk == 0) None (pool_limit_exceeded p.name part.pool l n (n + part.disk))) gone)

-- ---- both

-- a share is judged by what serves for its amounts and for its part
pub shares-beside : (projects : List Project) (name : List ℕ) (used other : Beside) (share : Footprint)
    → of_project (asked_over used.amounts share.amounts) projects name ≡ of_project (asked_over other.amounts share.amounts) projects name
    → of_project (part_over used.on_pool share.on) projects name ≡ of_project (part_over other.on_pool share.on) projects name
    → share_broken projects name used share ≡ share_broken projects name other share
shares-beside projects name used other share = at (project_named projects name) where
  at : (o : Option Project) → option_and_then (asked_over used.amounts share.amounts) o ≡ option_and_then (asked_over other.amounts share.amounts) o
      → option_and_then (part_over used.on_pool share.on) o ≡ option_and_then (part_over other.on_pool share.on) o
      → option_and_then (λ p. option_or (asked_over used.amounts share.amounts p) (option_or (part_over used.on_pool share.on p) None)) o
      ≡ option_and_then (λ p. option_or (asked_over other.amounts share.amounts p) (option_or (part_over other.on_pool share.on p) None)) o
  at None first second = refl
  at (Some p) first second = λ i. option_or (first i) (option_or (second i) None)
