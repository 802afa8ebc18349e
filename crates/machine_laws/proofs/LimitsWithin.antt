-- Where every project is within its limits, none is exceeded.
use Rattle.std.proofs.Common.{◌≡◌, ℕ, ◌≤◌, ◌+◌, false, Option, Some, None, refl, ap, arith}
use Rattle.std.specs.Prelude.{IfSome, nat_lt, option_map}
use Rattle.std.proofs.lemmas.Bool.Decides.{nat_tests}
use Rattle.plain_lists.specs.Firsts.{first_of}
use Rattle.plain_lists.proofs.Elements.{Each-none, Each-cons, Each-map}
use Rattle.plain_lists.proofs.FirstLemmas.{none-first_of}
use Rattle.size_values.specs.Amounts.{amount_above}
use Rattle.project_limits.specs.Admission.{exceeded, limit_on, key_of, parts}
use Rattle.project_limits.specs.declared.admission.LimitKey.{LimitKey}
use Rattle.project_limits.specs.declared.admission.LimitKey.TheVariants as limit_key
use Rattle.project_limits.specs.Limits.{limits_of}
use Rattle.project_limits.specs.Pools.{limited_pools, pool_limit}
use Rattle.records.specs.declared.refusals.Refusal.{Refusal}
use Rattle.records.specs.declared.rows.Project.{Project}
use Rattle.row_machine.specs.machine.State.{State}
use Rattle.row_machine.specs.machine.Usage.{used, used_on, networks_of}
use Rattle.row_machine.specs.machine.LimitRules.{limit_exceeded, over_refusal, pool_refusal, pool_exceeds, part_exceeds, networks_exceed, pools_exceed, limits_broken}
use Rattle.row_machine.specs.facts.Whole.{IsWithin, AreWithin}

-- of one number: what is used is within the limit
fits : (key : LimitKey) (limit : Option ℕ) (n : ℕ) → IfSome limit (λ l. n ≤ l) → exceeded key limit n (amount_above n n) ≡ None
fits key None n h = refl
fits key (Some l) n h =
    let within : nat_lt l (n + amount_above n n) ≡ false = grind (arith, nat_tests, h) in
    rw within refl

not_over : (p : Project) (key : LimitKey) (limit : Option ℕ) (n : ℕ) → IfSome limit (λ l. n ≤ l) → limit_exceeded p key limit n n ≡ None
not_over p key limit n h = ap (option_map (over_refusal p)) (fits key limit n h)

pub within-limits : (s : State) → AreWithin s → limits_broken s s ≡ None
unfolding limits_broken part_exceeds networks_exceed pools_exceed
within-limits s h =
    none-first_of (λ (o : Option Refusal). o) _ (Each-cons _ of_parts (Each-cons _ of_networks (Each-cons _ of_pools Each-none)))
  where
    of_parts : first_of (λ k. first_of (part_exceeds s s k) s.projects) parts ≡ None
    of_parts = none-first_of (λ k. first_of (part_exceeds s s k) s.projects) parts (record {
      at = λ k m. none-first_of (part_exceeds s s k) s.projects
          (Each-map (λ p (w : IsWithin s p). not_over p (key_of k) (limit_on k (limits_of p.config)) (used s p.name k) (w.parts k)) h.limits);
    })

    of_networks : first_of (networks_exceed s s) s.projects ≡ None
    of_networks = none-first_of (networks_exceed s s) s.projects
        (Each-map (λ p (w : IsWithin s p). not_over p limit_key.Networks (limits_of p.config).networks (networks_of s p.name) w.networks) h.limits)

    of_pools : first_of (pools_exceed s s) s.projects ≡ None
    of_pools = none-first_of (pools_exceed s s) s.projects
        (Each-map (λ p (w : IsWithin s p). none-first_of (pool_exceeds s s p) (limited_pools p.config) (record {
          at = λ pool m. ap (option_map (pool_refusal p.name pool)) (fits limit_key.DiskOnPool (pool_limit p.config pool) (used_on s p.name pool) (w.pools pool));
        })) h.limits)
