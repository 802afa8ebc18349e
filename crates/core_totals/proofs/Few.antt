-- No part of what a project uses is great, nor what it uses of a pool.
use Rattle.std.proofs.Common.{ℕ, ◌+◌, ◌<◌, ◌≤◌, ◌^◌, List, [], ◌∷◌, ◌++◌, None, length, refl, inl, inr, arith}
use Rattle.std.specs.Prelude.{map}
use Rattle.std.proofs.lemmas.List.{length-append, length-map}
use Rattle.plain_lists.proofs.Readings.{length-read}
use Rattle.size_values.specs.Amounts.{part}
use Rattle.size_values.specs.declared.amounts.Part.{Part}
use Rattle.size_values.specs.declared.kinds.ObjectKind.TheVariants as kind
use Rattle.operations.specs.declared.operation.Operation.{Operation}
use Rattle.row_machine.specs.machine.Claims.{of_live}
use Rattle.row_machine.specs.machine.State.{State}
use Rattle.row_machine.specs.machine.TableRules.{count_of}
use Rattle.row_machine.specs.machine.Task.{Task}
use Rattle.row_machine.specs.machine.Usage.{loads, usage_of, used_on, claim_load, instance_load, volume_load}
use Rattle.row_machine.specs.facts.Whole.{IsWhole}
use Rattle.row_readings.specs.declared.pool_limits.PoolLimit.{PoolLimit}
use Rattle.row_readings.proofs.Parts.{few-instances, few-volumes, few-claims, used-parts, part-of_usage}
use Rattle.row_readings.proofs.PoolLines.{are-sums}
use Rattle.row_readings.proofs.Small.{small-loads}

-- ---- how many there are

module _ (s : State) (h : IsWhole s) where
  few_instances : count_of s kind.Instance ≤ 65536
  few_instances = h.sizes.tables.at kind.Instance (inr (inr (inr (inr (inr (inl refl))))))

  few_volumes : count_of s kind.Volume ≤ 65536
  few_volumes = h.sizes.tables.at kind.Volume (inr (inr (inr (inr (inl refl)))))

  few_live : length s.operations.live ≤ 1024
  few_live = h.operations.kept.few_live

  few-loads : length (loads s) < 2 ^ 63
  unfolding loads
  few-loads =
      let rows = map (instance_load s) s.instances ++ map volume_load s.volumes in
      let claims : length (of_live (claim_load s) s) ≤ length s.operations.live =
      length-read (λ (o : Operation Task). claim_load s o.work) s.operations.live in
      omega (
        arith,
        length-append rows (of_live (claim_load s) s),
        length-append (map (instance_load s) s.instances) (map volume_load s.volumes),
        length-map s.instances (instance_load s),
        length-map s.volumes volume_load,
        claims,
        few_instances,
        few_volumes,
        few_live,
      )

-- ---- what is used

pub few-used : (s : State) (project : List ℕ) (k : Part) → IsWhole s → part k (usage_of s project) ≤ 2 ^ 127 + 2 ^ 126
few-used s project k h =
    let instances = few_instances s h in
    let volumes = few_volumes s h in
    let live = few_live s h in
    let of_instances = few-instances s project k s.instances (omega (arith, instances)) in
    let of_volumes = few-volumes project k s.volumes (omega (arith, volumes)) in
    let of_claims = few-claims s project k s.operations.live (omega (arith, live)) in
    omega (arith, of_instances, of_volumes, of_claims, used-parts s project k, part-of_usage s project k)

pub few-on : (s : State) (project pool : List ℕ) → IsWhole s → used_on s project pool ≤ 2 ^ 127 + 2 ^ 126
few-on s project pool h =
    let limit : PoolLimit = record { project = project; pool = pool; limit = None } in
    let low : used_on s project pool < 2 ^ 126 = (are-sums (limit ∷ []) (loads s) (small-loads s) (few-loads s h)).low 0 0 (omega arith) in
    omega (arith, low)
