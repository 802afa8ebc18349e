-- A part that a project has more on a pool can exceed its limit there alone.
use Rattle.std.proofs.Common.{◌≡◌, ℕ, ◌+◌, ◌≤◌, ◌==◌, Bool, true, false, cond, ◌||◌, Option, Some, None, List, [], ◌∷◌, refl, sym, ◌∙◌, ap, arith}
use Rattle.std.specs.Prelude.{IfSome, nat_lt}
use Rattle.std.specs.List.{list_any}
use Rattle.std.specs.Option.{option_map, option_or}
use Rattle.std.specs.Str.{bytes_eq}
use Rattle.std.proofs.lemmas.Bool.{eqb-true}
use Rattle.std.proofs.lemmas.Bool.Decides.{nat_tests}
use Rattle.plain_lists.specs.Firsts.{first_of}
use Rattle.plain_lists.proofs.FirstLemmas.{none-first_of, first_of-same}
use Rattle.plain_lists.proofs.Searches.{any-mem}
use Rattle.config_lists.proofs.Keys.{same, bytes_eq-itself}
use Rattle.size_values.specs.Amounts.{amount_above}
use Rattle.size_values.specs.PoolParts.{on_pool}
use Rattle.size_values.specs.declared.pool_part.PoolPart.{PoolPart}
use Rattle.project_limits.specs.Pools.{limited_pools, pool_limit}
use Rattle.project_limits.specs.declared.admission.LimitKey.TheVariants.{DiskOnPool}
use Rattle.project_limits.specs.declared.admission.Over.{Over}
use Rattle.records.specs.declared.refusals.Refusal.{Refusal}
use Rattle.records.specs.declared.rows.Project.{Project}
use Rattle.row_machine.specs.machine.LimitRules.{pool_exceeds, pool_limit_exceeded, pool_refusal, pools_exceed}
use Rattle.row_machine.specs.machine.State.{State}
use Rattle.row_machine.specs.machine.Usage.{used_on}
use Rattle.machine_laws.proofs.LimitedPools.{limited-there}
use Rattle.row_readings.proofs.Ranges.{apart}
use Rattle.rules_limits.specs.OneProject.{part_over}

-- a limit within which what is used of a pool stays is not exceeded
pub pool-unexceeded : (project pool : List ℕ) (limit : Option ℕ) (n : ℕ) → IfSome limit (λ l. n ≤ l) → pool_limit_exceeded project pool limit n n ≡ None
pool-unexceeded project pool None n h = refl
pool-unexceeded project pool (Some l) n h =
    let within : nat_lt l (n + amount_above n n) ≡ false = grind (arith, nat_tests, h) in
    ap (option_map (pool_refusal project pool))
    (ap (λ b. cond {A = Option Over} b (Some (record { key = DiskOnPool; used = n; asked = amount_above n n; limit = l })) None) within)

-- one refusal for each item that passes is one where some item does
one-refusal : {X R : Type 0} (test : X → Bool) (refused : Option R) (xs : List X) → first_of (λ x. cond (test x) refused None) xs ≡ cond (list_any test xs) refused None
one-refusal test refused [] = refl
one-refusal {X} {R} test refused (x ∷ xs) = at (test x) (one-refusal test refused xs) where
  twice : (o : Option R) (b : Bool) → option_or o (cond b o None) ≡ o
  twice None true = refl
  twice None false = refl
  twice (Some r) b = refl

  at : (b : Bool) → first_of (λ y. cond (test y) refused None) xs ≡ cond (list_any test xs) refused None
      → option_or (cond b refused None) (first_of (λ y. cond (test y) refused None) xs) ≡ cond (b || list_any test xs) refused None
  at true more = ap (option_or refused) more ∙ twice refused (list_any test xs)
  at false more = more

-- A project stands within its limits on pools, and a part is one more of the project of a name.
module _ (s t : State) (p : Project) (within : (pool : List ℕ) → IfSome (pool_limit p.config pool) (λ limit. used_on s p.name pool ≤ limit)) where
  -- where it has no more of a pool
  pool-same : (pool : List ℕ) → used_on t p.name pool ≡ used_on s p.name pool → pool_exceeds s t p pool ≡ None
  pool-same pool same_used =
      ap (pool_limit_exceeded p.name pool (pool_limit p.config pool) (used_on s p.name pool)) same_used
      ∙ pool-unexceeded p.name pool (pool_limit p.config pool) (used_on s p.name pool) (within pool)

  -- or of no pool
  pub pools-same : ((pool : List ℕ) → used_on t p.name pool ≡ used_on s p.name pool) → pools_exceed s t p ≡ None
  unfolding pools_exceed
  pools-same same_used = none-first_of (pool_exceeds s t p) (limited_pools p.config) (record { at = λ pool m. pool-same pool (same_used pool) })

  module _ (part : PoolPart) (more : (pool : List ℕ) → used_on t p.name pool ≡ used_on s p.name pool + on_pool pool part) where
    -- what it uses of the pool of the part, and the part, exceed this limit
    abbrev refused : Option ℕ → Option Refusal
    refused limit = pool_limit_exceeded p.name part.pool limit (used_on s p.name part.pool) (used_on s p.name part.pool + part.disk)

    -- only the pool of the part can be exceeded
    own-pool : (pool : List ℕ) → pool_exceeds s t p pool ≡ cond (bytes_eq part.pool pool) (refused (pool_limit p.config part.pool)) None
    own-pool pool = at (bytes_eq part.pool pool) refl where
      at : (b : Bool) → bytes_eq part.pool pool ≡ b → pool_exceeds s t p pool ≡ cond b (refused (pool_limit p.config part.pool)) None
      at true is =
          let all = more pool ∙ ap (λ b. used_on s p.name pool + cond b part.disk 0) is in
          ap (pool_limit_exceeded p.name pool (pool_limit p.config pool) (used_on s p.name pool)) all
          ∙ ap (λ q. pool_limit_exceeded p.name q (pool_limit p.config q) (used_on s p.name q) (used_on s p.name q + part.disk)) (sym (same part.pool pool is))
      at false is =
          let none = more pool ∙ ap (λ b. used_on s p.name pool + cond b part.disk 0) is in
          pool-same pool (omega (arith, none))

    -- and it is asked where its limit is set
    asked : (limit : Option ℕ) → pool_limit p.config part.pool ≡ limit
        → cond (list_any (bytes_eq part.pool) (limited_pools p.config)) (refused limit) None ≡ refused limit
    asked None is = either (list_any (bytes_eq part.pool) (limited_pools p.config)) where
      either : (b : Bool) → cond b (refused None) None ≡ refused None
      either true = refl
      either false = refl
    asked (Some l) is = ap (λ b. cond b (refused (Some l)) None)
        (any-mem (bytes_eq part.pool) part.pool (limited_pools p.config) (limited-there p.config part.pool l is) (bytes_eq-itself part.pool))

    pools-more : pools_exceed s t p ≡ refused (pool_limit p.config part.pool)
    unfolding pools_exceed
    pools-more =
        first_of-same (pool_exceeds s t p) (λ pool. cond (bytes_eq part.pool pool) (refused (pool_limit p.config part.pool)) None) (limited_pools p.config)
        (record { at = λ pool m. own-pool pool })
        ∙ one-refusal (bytes_eq part.pool) (refused (pool_limit p.config part.pool)) (limited_pools p.config)
        ∙ asked (pool_limit p.config part.pool) refl

    -- what is nothing exceeds none
    pub part-exceeds : pools_exceed s t p ≡ part_over (used_on s p.name part.pool) part p
    part-exceeds = at (part.disk == 0) refl where
      nothing-there : (pool : List ℕ) (b : Bool) → part.disk ≡ 0 → cond b part.disk 0 ≡ 0
      nothing-there pool true zero = zero
      nothing-there pool false zero = refl

      at : (b : Bool) → (part.disk == 0) ≡ b → pools_exceed s t p ≡ cond b None (refused (pool_limit p.config part.pool))
      at true is =
          let zero = eqb-true part.disk 0 is in
          pools-same (λ pool. let all = more pool in let none = nothing-there pool (bytes_eq part.pool pool) zero in omega (arith, all, none))
      at false is = pools-more

-- where the part is of the project of a name
pub named-exceeds : (s t : State) (p : Project) → ((pool : List ℕ) → IfSome (pool_limit p.config pool) (λ limit. used_on s p.name pool ≤ limit))
    → (name : List ℕ) (part : PoolPart) → ((pool : List ℕ) → used_on t p.name pool ≡ used_on s p.name pool + cond (bytes_eq name p.name) (on_pool pool part) 0)
    → pools_exceed s t p ≡ cond (bytes_eq p.name name) (part_over (used_on s name part.pool) part p) None
named-exceeds s t p within name part more = at (bytes_eq p.name name) refl where
  at : (b : Bool) → bytes_eq p.name name ≡ b → pools_exceed s t p ≡ cond b (part_over (used_on s name part.pool) part p) None
  at true is =
      let own : p.name ≡ name = same p.name name is in
      let counts = ap (bytes_eq name) own ∙ bytes_eq-itself name in
      part-exceeds s t p within part (λ pool. more pool ∙ ap (λ b. used_on s p.name pool + cond b (on_pool pool part) 0) counts)
      ∙ ap (λ n. part_over (used_on s n part.pool) part p) own
  at false is =
      let other = apart p.name name is in
      pools-same s t p within (λ pool. let all = more pool ∙ ap (λ b. used_on s p.name pool + cond b (on_pool pool part) 0) other in omega (arith, all))
