-- The lines of the pools that a project limits.
use Rattle.std.proofs.Common.{◌≡◌, ℕ, zero, suc, ◌+◌, ◌<◌, List, [], ◌∷◌, ◌++◌, length, get_or, take, map, refl, ap, ◌∙◌, arith}
use Rattle.std.proofs.lemmas.List.{append_assoc}
use Rattle.project_limits.specs.Pools.{limited_pools}
use Rattle.records.specs.declared.replies.UsageLine.{UsageLine}
use Rattle.records.specs.declared.rows.Project.{Project}
use Rattle.row_machine.specs.machine.State.{State}
use Rattle.row_machine.specs.machine.Usage.{loads}
use Rattle.row_machine.specs.shown.Views.{pool_line}
use Rattle.row_readings.specs.PoolLimits.{limit_of, own_limits, pool_sums}
use Rattle.row_readings.specs.declared.pool_limits.PoolLimit.{PoolLimit}
use Rattle.object_views.specs.Limited.{limited_line, limited_lines}

-- one more
lines-next : (limits : List PoolLimit) (uses : List ℕ) (i : ℕ) (l : PoolLimit) → i < length limits → i < length uses → l ≡ get_or limits i l
    → limited_lines (take i limits) (take i uses) ++ limited_line l (get_or uses i 0) ∷ [] ≡ limited_lines (take (i + 1) limits) (take (i + 1) uses)
lines-next [] uses i l in_limits in_uses is = absurd (omega (arith, in_limits))
lines-next (m ∷ limits) [] i l in_limits in_uses is = absurd (omega (arith, in_uses))
lines-next (m ∷ limits) (n ∷ uses) zero l in_limits in_uses is = ap (λ a. limited_line a n ∷ []) is
lines-next (m ∷ limits) (n ∷ uses) (suc i) l in_limits in_uses is =
    let step : suc (i + 1) ≡ suc i + 1 = omega arith in
    ap (λ lines. limited_line m n ∷ lines) (lines-next limits uses i l (omega (arith, in_limits)) (omega (arith, in_uses)) is)
    ∙ ap (λ j. limited_lines (take j (m ∷ limits)) (take j (n ∷ uses))) step

-- behind others
pub lines-more : (front : List UsageLine) (limits : List PoolLimit) (uses : List ℕ) (i : ℕ) (l : PoolLimit) → i < length limits → i < length uses → l ≡ get_or limits i l
    → (front ++ limited_lines (take i limits) (take i uses)) ++ limited_line l (get_or uses i 0) ∷ [] ≡ front ++ limited_lines (take (i + 1) limits) (take (i + 1) uses)
lines-more front limits uses i l in_limits in_uses is =
    append_assoc front (limited_lines (take i limits) (take i uses)) (limited_line l (get_or uses i 0) ∷ [])
    ∙ ap (λ lines. front ++ lines) (lines-next limits uses i l in_limits in_uses is)

-- those of a project, by what it uses
pub pools-shown : (s : State) (p : Project) → limited_lines (own_limits p) (pool_sums (loads s) (own_limits p)) ≡ map (pool_line s p) (limited_pools p.config)
pools-shown s p = each (limited_pools p.config) where
  each : (pools : List (List ℕ)) → limited_lines (map (limit_of p) pools) (pool_sums (loads s) (map (limit_of p) pools)) ≡ map (pool_line s p) pools
  each [] = refl
  each (q ∷ qs) = ap (λ lines. pool_line s p q ∷ lines) (each qs)
