-- The limits on pools by tables of sums are the limits on pools by all that counts.
use Rattle.std.proofs.Common.{◌≡◌, ℕ, ◌<◌, List, [], ◌∷◌, Option, length, get_or, map, refl, sym, ap, ap₂, ◌∙◌, arith}
use Rattle.std.specs.Option.{option_or}
use Rattle.std.specs.List.{zip}
use Rattle.std.proofs.lemmas.List.{get_or_default}
use Rattle.std.proofs.lemmas.Slice.Zip.{length-zip, get_or-zip}
use Rattle.plain_lists.specs.Firsts.{first_of}
use Rattle.plain_lists.proofs.FirstLemmas.{first_of-append}
use Rattle.project_limits.specs.Pools.{limited_pools}
use Rattle.records.specs.declared.refusals.Refusal.{Refusal}
use Rattle.records.specs.declared.rows.Project.{Project}
use Rattle.row_machine.specs.machine.LimitRules.{pool_exceeds, pool_limit_exceeded, pools_exceed}
use Rattle.row_machine.specs.machine.State.{State}
use Rattle.row_machine.specs.machine.Usage.{Load, loads}
use Rattle.row_readings.specs.PoolLimits.{limit_of, own_limits, all_limits, used_under}
use Rattle.row_readings.specs.declared.pool_limits.PoolLimit.{PoolLimit}
use Rattle.rules_limits.specs.Pools.{pool_lines, pools_over}

-- ---- the line at a place

module _ (limits : List PoolLimit) (before after : List ℕ) (few : length before ≡ length limits) (many : length after ≡ length limits) where
  pairs : length (zip before after) ≡ length limits
  pairs = omega (arith, length-zip before after, few, many)

  pub pool-lines-length : length (pool_lines limits before after) ≡ length limits
  pool-lines-length = omega (arith, length-zip limits (zip before after), pairs)

  pub pool-line-is : (i : ℕ) (l : PoolLimit) → i < length limits → l ≡ get_or limits i l
      → (l, (get_or before i 0, get_or after i 0)) ≡ get_or (pool_lines limits before after) i (l, (get_or before i 0, get_or after i 0))
  pool-line-is i l within is =
      let b = get_or before i 0 in
      let a = get_or after i 0 in
      let in-before : i < length before = omega (arith, within, few) in
      let in-after : i < length after = omega (arith, within, many) in
      (λ j. (is j, (get_or_default before i 0 b in-before j, get_or_default after i 0 a in-after j)))
      ∙ ap (λ pair. (get_or limits i l, pair)) (sym (get_or-zip before after i (b, a) in-before in-after))
      ∙ sym (get_or-zip limits (zip before after) i (l, (b, a)) within (omega (arith, within, pairs)))

-- ---- by all that counts

abbrev over : List Load → List Load → PoolLimit → Option Refusal
over old new limit = pool_limit_exceeded limit.project limit.pool limit.limit (used_under old limit) (used_under new limit)

limits-are : (old new : List Load) (limits : List PoolLimit) → pools_over old new limits ≡ first_of (over old new) limits
limits-are old new [] = refl
limits-are old new (l ∷ ls) = ap (option_or (over old new l)) (limits-are old new ls)

own-are : (s after : State) (p : Project) → first_of (over (loads s) (loads after)) (own_limits p) ≡ pools_exceed s after p
unfolding pools_exceed
own-are s after p = mapped (limited_pools p.config) where
  mapped : (pools : List (List ℕ)) → first_of (over (loads s) (loads after)) (map (limit_of p) pools) ≡ first_of (pool_exceeds s after p) pools
  mapped [] = refl
  mapped (q ∷ qs) = ap (option_or (pool_exceeds s after p q)) (mapped qs)

all-are : (s after : State) (ps : List Project) → first_of (over (loads s) (loads after)) (all_limits ps) ≡ first_of (pools_exceed s after) ps
all-are s after [] = refl
all-are s after (p ∷ ps) =
    first_of-append (over (loads s) (loads after)) (own_limits p) (all_limits ps) ∙ ap₂ option_or (own-are s after p) (all-are s after ps)

-- of one project, and of all
pub project-pools : (s after : State) (p : Project) → pools_over (loads s) (loads after) (own_limits p) ≡ pools_exceed s after p
project-pools s after p = limits-are (loads s) (loads after) (own_limits p) ∙ own-are s after p

pub projects-pools : (s after : State) (ps : List Project) → pools_over (loads s) (loads after) (all_limits ps) ≡ first_of (pools_exceed s after) ps
projects-pools s after ps = limits-are (loads s) (loads after) (all_limits ps) ∙ all-are s after ps
