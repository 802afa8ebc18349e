-- The limits of projects: each is told at its project.
use Rattle.std.proofs.Common.{◌≡◌, ℕ, Bool, true, false, cond, nat_lt, ◌+◌, List, [], ◌∷◌, Option, Some, None, option_map, refl, sym, ap, ◌∙◌}
use Rattle.std.specs.Option.{option_or}
use Rattle.plain_lists.specs.Firsts.{first_of}
use Rattle.size_values.specs.Amounts.{amount_above}
use Rattle.size_values.specs.declared.amounts.Part.{Part}
use Rattle.project_limits.specs.Admission.{parts, key_of, limit_on}
use Rattle.project_limits.specs.Limits.{limits_of}
use Rattle.project_limits.specs.Pools.{limited_pools, pool_limit}
use Rattle.project_limits.specs.declared.admission.LimitKey.{LimitKey}
use Rattle.project_limits.specs.declared.admission.LimitKey.TheVariants.{DiskOnPool, Networks}
use Rattle.records.specs.declared.refusals.Refusal.{Refusal}
use Rattle.records.specs.declared.rows.Project.{Project}
use Rattle.records.specs.declared.rows.Row.{Row}
use Rattle.row_machine.specs.machine.LimitRules.{limit_exceeded, over_refusal, part_exceeds, networks_exceed, pool_exceeds, pool_limit_exceeded, pool_refusal, pools_exceed, limits_broken}
use Rattle.row_machine.specs.machine.State.{State}
use Rattle.row_machine.specs.machine.Usage.{used, used_on, networks_of}
use Rattle.row_machine.specs.opening.Opening.{broken, limit_breaks}
use Rattle.rules_opening.specs.Rules.{breach_of}

-- what is told of the first answer

map-or : {R O : Type 0} (f : R → O) (a b : Option R) → option_map f (option_or a b) ≡ option_or (option_map f a) (option_map f b)
map-or f None b = refl
map-or f (Some r) b = refl

map-first : {X R O : Type 0} (f : R → O) (rule : X → Option R) (told : X → Option O) (xs : List X)
    → ((x : X) → option_map f (rule x) ≡ told x) → option_map f (first_of rule xs) ≡ first_of told xs
map-first f rule told [] same = refl
map-first f rule told (x ∷ xs) same =
    map-or f (rule x) (first_of rule xs)
    ∙ ap (λ o. option_or o (option_map f (first_of rule xs))) (same x)
    ∙ ap (option_or (told x)) (map-first f rule told xs same)

exceeds-at : (p : Project) (key : LimitKey) (limit : Option ℕ) (before after : ℕ)
    → option_map breach_of (limit_exceeded p key limit before after) ≡ option_map (λ r. broken r.rule 1 p.name) (limit_exceeded p key limit before after)
exceeds-at p key None before after = refl
exceeds-at p key (Some limit) before after = at (nat_lt limit (before + amount_above after before)) where
  at : (b : Bool)
      → option_map breach_of (option_map (over_refusal p) (cond b (Some (record { key = key; used = before; asked = amount_above after before; limit = limit })) None))
      ≡ option_map (λ r. broken r.rule 1 p.name) (option_map (over_refusal p) (cond b (Some (record { key = key; used = before; asked = amount_above after before; limit = limit })) None))
  at true = refl
  at false = refl

part-at : (s : State) (k : Part) (p : Project) → option_map breach_of (part_exceeds s s k p) ≡ option_map (λ r. broken r.rule 1 p.name) (part_exceeds s s k p)
unfolding part_exceeds
part-at s k p = exceeds-at p (key_of k) (limit_on k (limits_of p.config)) (used s p.name k) (used s p.name k)

networks-at : (s : State) (p : Project) → option_map breach_of (networks_exceed s s p) ≡ option_map (λ r. broken r.rule 1 p.name) (networks_exceed s s p)
unfolding networks_exceed
networks-at s p = exceeds-at p Networks (limits_of p.config).networks (networks_of s p.name) (networks_of s p.name)

pool-at : (p : Project) (pool : List ℕ) (limit : Option ℕ) (before after : ℕ)
    → option_map breach_of (pool_limit_exceeded p.name pool limit before after) ≡ option_map (λ r. broken r.rule 1 p.name) (pool_limit_exceeded p.name pool limit before after)
pool-at p pool None before after = refl
pool-at p pool (Some limit) before after = at (nat_lt limit (before + amount_above after before)) where
  at : (b : Bool)
      → option_map breach_of (option_map (pool_refusal p.name pool) (cond b (Some (record { key = DiskOnPool; used = before; asked = amount_above after before; limit = limit })) None))
      ≡ option_map (λ r. broken r.rule 1 p.name) (option_map (pool_refusal p.name pool) (cond b (Some (record { key = DiskOnPool; used = before; asked = amount_above after before; limit = limit })) None))
  at true = refl
  at false = refl

pools-at : (s : State) (p : Project) → option_map breach_of (pools_exceed s s p) ≡ option_map (λ r. broken r.rule 1 p.name) (pools_exceed s s p)
unfolding pools_exceed
pools-at s p =
    let rule = pool_exceeds s s p in
    let told = λ (pool : List ℕ). option_map breach_of (pool_exceeds s s p pool) in
    map-first breach_of rule told (limited_pools p.config) (λ pool. refl)
    ∙ sym (map-first (λ (r : Refusal). broken r.rule 1 p.name) rule told (limited_pools p.config)
    (λ pool. sym (pool-at p pool (pool_limit p.config pool) (used_on s p.name pool) (used_on s p.name pool))))

pub limit-breach : (s : State) (rows : List Row) → option_map breach_of (limits_broken s s) ≡ limit_breaks s rows
unfolding limits_broken
limit-breach s rows =
    let of_parts = first_of (λ k. first_of (part_exceeds s s k) s.projects) parts in
    let of_networks = first_of (networks_exceed s s) s.projects in
    let of_pools = first_of (pools_exceed s s) s.projects in
    let told_parts = first_of (λ k. first_of (λ p. option_map (λ r. broken r.rule 1 p.name) (part_exceeds s s k p)) s.projects) parts in
    let told_networks = first_of (λ p. option_map (λ r. broken r.rule 1 p.name) (networks_exceed s s p)) s.projects in
    map-or breach_of of_parts (option_or of_networks (option_or of_pools None))
    ∙ ap (λ o. option_or o (option_map breach_of (option_or of_networks (option_or of_pools None))))
    (map-first breach_of (λ k. first_of (part_exceeds s s k) s.projects)
    (λ k. first_of (λ p. option_map (λ r. broken r.rule 1 p.name) (part_exceeds s s k p)) s.projects) parts
    (λ k. map-first breach_of (part_exceeds s s k) (λ p. option_map (λ r. broken r.rule 1 p.name) (part_exceeds s s k p)) s.projects (part-at s k)))
    ∙ ap (option_or told_parts)
    (map-or breach_of of_networks (option_or of_pools None)
    ∙ ap (λ o. option_or o (option_map breach_of (option_or of_pools None)))
    (map-first breach_of (networks_exceed s s) (λ p. option_map (λ r. broken r.rule 1 p.name) (networks_exceed s s p)) s.projects (networks-at s))
    ∙ ap (option_or told_networks)
    (map-or breach_of of_pools None
    ∙ ap (λ o. option_or o None)
    (map-first breach_of (pools_exceed s s) (λ p. option_map (λ r. broken r.rule 1 p.name) (pools_exceed s s p)) s.projects (pools-at s))))
