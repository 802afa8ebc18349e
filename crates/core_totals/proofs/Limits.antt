-- A new operation adds its share to what its project uses, and that alone can exceed a limit.
use Rattle.std.proofs.Common.{◌≡◌, ℕ, ◌+◌, ◌≤◌, Bool, true, false, cond, Option, Some, None, List, [], ◌++◌, refl, sym, ◌∙◌, ap, ap₂, subst, arith}
use Rattle.std.specs.Prelude.{IfSome, map, nat_lt}
use Rattle.std.specs.List.{sum_by}
use Rattle.std.specs.Option.{option_and_then, option_map, option_map_or, option_or, option_to_list}
use Rattle.std.specs.Str.{bytes_eq}
use Rattle.std.proofs.lemmas.Bool.Decides.{nat_tests}
use Rattle.std.proofs.lemmas.List.Sums.{sum_by-append, sum_by-cons}
use Rattle.plain_lists.specs.Firsts.{first_of}
use Rattle.plain_lists.specs.Members.{Distinct}
use Rattle.plain_lists.proofs.Elements.{Each-map}
use Rattle.plain_lists.proofs.Searches.{find-some}
use Rattle.plain_lists.proofs.FirstLemmas.{none-first_of, first_of-same}
use Rattle.config_lists.proofs.Keys.{same, bytes_eq-itself}
use Rattle.size_values.specs.Amounts.{part, nothing, amount_above, fits_in, plus_of}
use Rattle.size_values.specs.PoolParts.{no_part}
use Rattle.size_values.specs.declared.amounts.Amounts.{Amounts}
use Rattle.size_values.specs.declared.amounts.Part.{Part}
use Rattle.size_values.specs.declared.pool_part.PoolPart.{PoolPart}
use Rattle.size_values.proofs.AmountParts.{fits-part, part-plus, same-parts}
use Rattle.project_limits.specs.Admission.{limit_on, key_of, parts}
use Rattle.project_limits.specs.Limits.{limits_of}
use Rattle.project_limits.specs.declared.admission.LimitKey.{LimitKey}
use Rattle.project_limits.specs.declared.admission.LimitKey.TheVariants as limit_key
use Rattle.project_limits.specs.declared.admission.Over.{Over}
use Rattle.records.specs.declared.refusals.Refusal.{Refusal}
use Rattle.records.specs.declared.rows.Project.{Project}
use Rattle.records.specs.declared.rows.Row.{Row}
use Rattle.row_machine.specs.machine.Claims.{of_live, part_of_share, share_of, part_over as part_above, share_over as share_above, replaced_instance, amounts_of_instance, part_of_instance, project_of_row}
use Rattle.row_machine.specs.machine.LimitRules.{limit_exceeded, over_refusal, part_exceeds, networks_exceed, pools_exceed, limits_broken}
use Rattle.row_machine.specs.machine.State.{State}
use Rattle.row_machine.specs.machine.Task.{Task}
use Rattle.row_machine.specs.machine.Usage.{Load, loads, used, used_on, usage_of, networks_of, instance_load, volume_load, claim_load}
use Rattle.row_machine.specs.machine.Operations.{claiming, project_of_task}
use Rattle.row_machine.specs.facts.Whole.{IsWhole, IsWithin, AreWithin}
use Rattle.row_machine.specs.machine.Rows.{is_project, project_named, project_names}
use Rattle.row_readings.specs.Footprints.{share_footprint}
use Rattle.machine_laws.proofs.DefaultsProjects.{distinct_projects}
use Rattle.machine_laws.proofs.Base.{claiming-reads}
use Rattle.machine_laws.proofs.Measures.{Measure, IsMeasure, measured, used_by, by_part, by_pool, part-measure, pool-measure, none-measure}
use Rattle.row_readings.proofs.Parts.{none-of, part-of_usage}
use Rattle.rules_limits.specs.OneProject.{amounts_over, asked_over, part_over, of_project, share_broken}
use Rattle.rules_limits.specs.Sums.{line_over}
use Rattle.row_readings.proofs.Ranges.{apart, first_of-filter}
use Rattle.core_totals.specs.Alone.{beside_share}
use Rattle.core_totals.proofs.Named.{named-first}
use Rattle.core_totals.proofs.Pools.{named-exceeds}

-- ---- one more operation

-- what its share counts for by a measure, for the project that it counts for
abbrev pub share_for : State → Task → List ℕ → Measure → ℕ
share_for s task name k = measured name k (record { project = project_of_task task; amounts = share_of s task; on = part_of_share s task })

-- what it adds to the sum is its share, and that is nothing where it claims nothing
claim-adds : (s : State) (task : Task) (name : List ℕ) (k : Measure) → IsMeasure k → sum_by (measured name k) (option_to_list (claim_load s task)) ≡ share_for s task name k
unfolding share_of part_of_share
claim-adds s task name k measure = at task.claim where
  shared : Option Row → Amounts
  shared claim = option_map_or (λ new. share_above s new (replaced_instance s task)) claim nothing

  parted : Option Row → PoolPart
  parted claim = option_map_or (λ new. part_above s new (replaced_instance s task)) claim no_part

  nothing-for : (b : Bool) → 0 ≡ cond b (k nothing no_part) 0
  nothing-for true = sym (none-measure k measure)
  nothing-for false = refl

  at : (claim : Option Row)
      → sum_by (measured name k) (option_to_list (option_map (λ new. record { project = project_of_row new; amounts = shared claim; on = parted claim }) claim))
      ≡ measured name k (record { project = option_map_or project_of_row claim task.project; amounts = shared claim; on = parted claim })
  at None = nothing-for (bytes_eq task.project name)
  at (Some r) = omega (arith, sum_by-cons (measured name k) (record { project = project_of_row r; amounts = shared (Some r); on = parted (Some r) }) [])

pub used-after : (s : State) (task : Task) (moment : ℕ) (name : List ℕ) (k : Measure) → IsMeasure k
    → used_by (claiming s task moment) name k ≡ used_by s name k + share_for s task name k
unfolding loads share_of amounts_of_instance part_of_share part_of_instance
used-after s task moment name k measure =
    let after : used_by (claiming s task moment) name k ≡ sum_by amount (rows ++ (claims ++ new)) =
    ap (λ xs. sum_by amount (rows ++ xs)) (claiming-reads (claim_load s) s task moment) in
    let before : used_by s name k ≡ sum_by amount (rows ++ claims) = refl in
    omega (
      arith,
      after,
      before,
      sum_by-append amount rows (claims ++ new),
      sum_by-append amount claims new,
      sum_by-append amount rows claims,
      claim-adds s task name k measure,
    )
  where
    amount : Load → ℕ
    amount = measured name k

    rows : List Load
    rows = map (instance_load s) s.instances ++ map volume_load s.volumes

    claims : List Load
    claims = of_live (claim_load s) s

    new : List Load
    new = option_to_list (claim_load s task)

-- ---- amounts

-- a part of a share above what the project of a name uses
abbrev share_over : List ℕ → Amounts → Amounts → Part → Project → Option Refusal
share_over name used share k p =
    cond (bytes_eq p.name name)
    (limit_exceeded p (key_of k) (limit_on k (limits_of p.config)) (part k used) (part k used + part k share)) None

-- the first part that it exceeds, of all projects
abbrev share_exceeds : List Project → List ℕ → Amounts → Amounts → Option Refusal
share_exceeds projects name used share = first_of (λ k. first_of (share_over name used share k) projects) parts

-- is that of the project of the name
exceeds-named : (ps : List Project) (name : List ℕ) (used share : Amounts) → Distinct project_names ps
    → share_exceeds ps name used share ≡ of_project (amounts_over used (plus_of used share)) ps name
exceeds-named ps name used share distinct =
    first_of-same (λ k. first_of (share_over name used share k) ps) (λ k. of_project (share_over name used share k) ps name) parts
    (record { at = λ k m. of-named k })
    ∙ at (project_named ps name) refl where
      of-named : (k : Part) → first_of (share_over name used share k) ps ≡ of_project (share_over name used share k) ps name
      of-named k =
          sym (first_of-filter (share_over name used share k) (λ p. bytes_eq p.name name) ps
          (λ p other. ap (λ b. cond b
          (limit_exceeded p (key_of k) (limit_on k (limits_of p.config)) (part k used) (part k used + part k share)) None) other))
          ∙ named-first (share_over name used share k) name ps distinct

      at : (o : Option Project) → project_named ps name ≡ o
          → first_of (λ k. option_and_then (share_over name used share k) o) parts ≡ option_and_then (amounts_over used (plus_of used share)) o
      at None found = refl
      at (Some p) found = first_of-same (λ k. share_over name used share k p) (λ k. line_over k (p, (used, plus_of used share))) parts
          (record {
            at = λ k m. ap (λ b. cond b
                (limit_exceeded p (key_of k) (limit_on k (limits_of p.config)) (part k used) (part k used + part k share)) None)
                (find-some (is_project name) ps p found).1
                ∙ ap (limit_exceeded p (key_of k) (limit_on k (limits_of p.config)) (part k used)) (sym (part-plus k used share));
          })

-- a share is nothing where it fits in nothing
nothing-fits : (share : Amounts) → fits_in share nothing ≡ true → share ≡ nothing
nothing-fits share is =
    same-parts share nothing (λ k. let low = fits-part share nothing is k in omega (arith, low, none-of k))

-- a limit within which what is used stays is not exceeded
pub unexceeded : (p : Project) (key : LimitKey) (limit : Option ℕ) (n : ℕ) → IfSome limit (λ l. n ≤ l) → limit_exceeded p key limit n n ≡ None
unexceeded p key None n h = refl
unexceeded p key (Some l) n h =
    let within : nat_lt l (n + amount_above n n) ≡ false = grind (arith, nat_tests, h) in
    ap (option_map (over_refusal p)) (ap (λ b. cond {A = Option Over} b (Some (record { key = key; used = n; asked = amount_above n n; limit = l })) None) within)

module _ (s : State) (task : Task) (p : Project) (h : IsWithin s p) where
  -- the project that it counts for, and what that uses and its share
  abbrev name : List ℕ
  name = project_of_task task

  abbrev before : Part → ℕ
  before k = part k (usage_of s name)

  abbrev share : Part → ℕ
  share k = part k (share_of s task)

  abbrev exceeded : Part → ℕ → ℕ → Option Refusal
  exceeded k = limit_exceeded p (key_of k) (limit_on k (limits_of p.config))

  before-own : (k : Part) → p.name ≡ name → used s p.name k ≡ before k
  before-own k own = ap (λ n. used s n k) own ∙ sym (part-of_usage s name k)

  part-alone : (moment : ℕ) (k : Part) → part_exceeds s (claiming s task moment) k p ≡ share_over name (usage_of s name) (share_of s task) k p
  unfolding part_exceeds
  part-alone moment k = ap (exceeded k (used s p.name k)) (used-after s task moment p.name (by_part k) (part-measure k)) ∙ at (bytes_eq p.name name) refl where
    at : (b : Bool) → bytes_eq p.name name ≡ b
        → exceeded k (used s p.name k) (used s p.name k + share_for s task p.name (by_part k)) ≡ cond b (exceeded k (before k) (before k + share k)) None
    at true is =
        let own : p.name ≡ name = same p.name name is in
        ap (λ b. exceeded k (used s p.name k) (used s p.name k + cond b (share k) 0)) (ap (bytes_eq name) own ∙ bytes_eq-itself name)
        ∙ ap (λ n. exceeded k n (n + share k)) (before-own k own)
    at false is =
        let none : used s p.name k + 0 ≡ used s p.name k = omega arith in
        ap (λ b. exceeded k (used s p.name k) (used s p.name k + cond b (share k) 0)) (apart p.name name is)
        ∙ ap (exceeded k (used s p.name k)) none
        ∙ unexceeded p (key_of k) (limit_on k (limits_of p.config)) (used s p.name k) (h.parts k)

  -- where it has no share nothing is exceeded
  part-none : (k : Part) → share_over name (usage_of s name) nothing k p ≡ None
  part-none k = at (bytes_eq p.name name) refl where
    at : (b : Bool) → bytes_eq p.name name ≡ b → cond b (exceeded k (before k) (before k + part k nothing)) None ≡ None
    at true is =
        let none : before k + part k nothing ≡ before k = omega (arith, none-of k) in
        ap (exceeded k (before k)) none
        ∙ unexceeded p (key_of k) (limit_on k (limits_of p.config)) (before k)
        (subst (λ n. IfSome (limit_on k (limits_of p.config)) (λ l. n ≤ l)) (before-own k (same p.name name is)) (h.parts k))
    at false is = refl

  networks-none : (moment : ℕ) → networks_exceed s (claiming s task moment) p ≡ None
  unfolding networks_exceed networks_of
  networks-none moment = unexceeded p limit_key.Networks (limits_of p.config).networks (networks_of s p.name) h.networks

-- of all projects
module _ (s : State) (task : Task) (moment : ℕ) (h : AreWithin s) where
  abbrev of_parts : Option Refusal
  of_parts = first_of (λ k. first_of (part_exceeds s (claiming s task moment) k) s.projects) parts

  parts-exceed : first_of (λ k. first_of (part_exceeds s (claiming s task moment) k) s.projects) parts
      ≡ share_exceeds s.projects (project_of_task task) (usage_of s (project_of_task task)) (share_of s task)
  parts-exceed = first_of-same (λ k. first_of (part_exceeds s (claiming s task moment) k) s.projects) _ parts
      (record { at = λ k m. first_of-same (part_exceeds s (claiming s task moment) k) _ s.projects (Each-map (λ p w. part-alone s task p w moment k) h.limits) })

  parts-none : share_of s task ≡ nothing → of_parts ≡ None
  parts-none none =
      parts-exceed
      ∙ ap (share_exceeds s.projects (project_of_task task) (usage_of s (project_of_task task))) none
      ∙ none-first_of (λ k. first_of (share_over (project_of_task task) (usage_of s (project_of_task task)) nothing k) s.projects) parts
      (record {
        at = λ k m. none-first_of (share_over (project_of_task task) (usage_of s (project_of_task task)) nothing k) s.projects
            (Each-map (λ p w. part-none s task p w k) h.limits);
      })

  parts-alone : Distinct project_names s.projects
      → of_parts ≡ of_project (asked_over (usage_of s (project_of_task task)) (share_of s task)) s.projects (project_of_task task)
  parts-alone distinct = at (fits_in (share_of s task) nothing) refl where
    name : List ℕ
    name = project_of_task task

    exceeding : Project → Option Refusal
    exceeding = amounts_over (usage_of s name) (plus_of (usage_of s name) (share_of s task))

    nothing-of : (o : Option Project) → None ≡ option_and_then (λ p. cond true None (exceeding p)) o
    nothing-of None = refl
    nothing-of (Some p) = refl

    at : (b : Bool) → fits_in (share_of s task) nothing ≡ b → of_parts ≡ of_project (λ p. cond b None (exceeding p)) s.projects name
    at true is = parts-none (nothing-fits (share_of s task) is) ∙ nothing-of (project_named s.projects name)
    at false is = parts-exceed ∙ exceeds-named s.projects name (usage_of s name) (share_of s task) distinct

-- ---- pools

pools-alone : (s : State) (task : Task) (moment : ℕ) → AreWithin s → Distinct project_names s.projects
    → first_of (pools_exceed s (claiming s task moment)) s.projects
    ≡ of_project (part_over (used_on s (project_of_task task) (part_of_share s task).pool) (part_of_share s task)) s.projects (project_of_task task)
pools-alone s task moment h distinct =
    first_of-same (pools_exceed s (claiming s task moment)) named s.projects
    (Each-map (λ p w. named-exceeds s (claiming s task moment) p w.pools (project_of_task task) (part_of_share s task)
    (λ pool. used-after s task moment p.name (by_pool pool) (pool-measure pool))) h.limits)
    ∙ sym (first_of-filter named (λ p. bytes_eq p.name (project_of_task task)) s.projects (λ p other. ap (λ b. cond b (over p) None) other))
    ∙ named-first named (project_of_task task) s.projects distinct
    ∙ found (project_named s.projects (project_of_task task)) refl where
      over : Project → Option Refusal
      over = part_over (used_on s (project_of_task task) (part_of_share s task).pool) (part_of_share s task)

      named : Project → Option Refusal
      named p = cond (bytes_eq p.name (project_of_task task)) (over p) None

      found : (o : Option Project) → project_named s.projects (project_of_task task) ≡ o → option_and_then named o ≡ option_and_then over o
      found None is = refl
      found (Some p) is = ap (λ b. cond b (over p) None) (find-some (is_project (project_of_task task)) s.projects p is).1

-- ---- all limits

-- two rules asked of the project of a name one after the other are asked of it together
named-both : {R : Type 0} (first_rule second_rule : Project → Option R) (ps : List Project) (name : List ℕ)
    → option_or (of_project first_rule ps name) (option_or None (option_or (of_project second_rule ps name) None))
    ≡ of_project (λ p. option_or (first_rule p) (option_or (second_rule p) None)) ps name
named-both {R} first_rule second_rule ps name = at (project_named ps name) where
  at : (o : Option Project) → option_or (option_and_then first_rule o) (option_or None (option_or (option_and_then second_rule o) None))
      ≡ option_and_then (λ p. option_or (first_rule p) (option_or (second_rule p) None)) o
  at None = refl
  at (Some p) = refl

pub limits-alone : (s : State) (task : Task) (moment : ℕ) → IsWhole s → limits_broken s (claiming s task moment)
    ≡ share_broken s.projects (project_of_task task) (beside_share s task) (share_footprint s task)
unfolding limits_broken
limits-alone s task moment h =
    let t = claiming s task moment in
    let of_parts = first_of (λ k. first_of (part_exceeds s t k) s.projects) parts in
    let of_pools = first_of (pools_exceed s t) s.projects in
    let no_networks : first_of (networks_exceed s t) s.projects ≡ None =
    none-first_of (networks_exceed s t) s.projects (Each-map (λ p w. networks-none s task p w moment) h.limits.limits) in
    ap (λ o. option_or of_parts (option_or o (option_or of_pools None))) no_networks
    ∙ ap₂ (λ a b. option_or a (option_or None (option_or b None)))
    (parts-alone s task moment h.limits (distinct_projects h)) (pools-alone s task moment h.limits (distinct_projects h))
    ∙ named-both (asked_over (usage_of s (project_of_task task)) (share_of s task))
    (part_over (used_on s (project_of_task task) (part_of_share s task).pool) (part_of_share s task)) s.projects (project_of_task task)
