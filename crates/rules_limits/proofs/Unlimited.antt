-- Where a project limits no sum and no pool, all is countable; where no project has a limit, none is exceeded.
use Rattle.std.proofs.Common.{◌≡◌, ℕ, Bool, true, false, ◌||◌, Option, Some, None, List, [], ◌∷◌, map, refl, ap}
use Rattle.std.specs.Option.{option_and_then, option_map_or}
use Rattle.std.specs.Prelude.{codes, is_some}
use Rattle.plain_lists.specs.Members.{Each}
use Rattle.plain_lists.specs.Firsts.{first_of}
use Rattle.plain_lists.proofs.Elements.{Each-none, Each-cons, Each-map}
use Rattle.plain_lists.proofs.FirstLemmas.{none-first_of}
use Rattle.size_values.specs.Amounts.{part}
use Rattle.size_values.specs.declared.amounts.Amounts.{Amounts}
use Rattle.size_values.specs.declared.amounts.Part.{Part}
use Rattle.size_values.specs.declared.amounts.Part.TheVariants as part_of
use Rattle.size_values.specs.declared.kinds.Kind.{Kind}
use Rattle.config_lists.specs.Settings.{Settings}
use Rattle.config_lists.specs.Devices.{NamedDevices}
use Rattle.project_limits.specs.declared.limits.Limits.{Limits}
use Rattle.project_limits.specs.declared.sums.SumKey.{SumKey}
use Rattle.project_limits.specs.declared.sums.SumKey.TheVariants as sum
use Rattle.project_limits.specs.Admission.{limit_on, parts, key_of}
use Rattle.project_limits.specs.declared.admission.LimitKey.TheVariants.{Networks}
use Rattle.project_limits.specs.Countable.{first_without_amount, volume_without_amount, sum_limit, sums, without_amount as sum_without_amount}
use Rattle.project_limits.specs.Instance.{counted}
use Rattle.project_limits.specs.Limits.{size_in, limits_of}
use Rattle.project_limits.specs.Pools.{limited_pools, limits_pools}
use Rattle.project_limits.proofs.PoolKeys.{no-pools, sized-root, sized-volume}
use Rattle.records.specs.declared.rows.Project.{Project}
use Rattle.records.specs.declared.rows.Volume.{Volume}
use Rattle.records.specs.declared.rows.Instance.{Instance}
use Rattle.operations.specs.declared.operation.Operation.{Operation}
use Rattle.row_machine.specs.machine.Task.{Task}
use Rattle.row_machine.specs.machine.Rows.{project_named}
use Rattle.row_machine.specs.machine.State.{State}
use Rattle.row_machine.specs.machine.Usage.{used, networks_of}
use Rattle.row_machine.specs.machine.Expansions.{expanded_of}
use Rattle.row_machine.specs.machine.LimitRules.{project_without_amount, claim_without_amount, instance_without_amount, volume_lacks_amount, limits_broken, part_exceeds, networks_exceed, pool_exceeds, pools_exceed, limit_exceeded, object_without_amount, object_without_size}
use Rattle.rules_refusals.proofs.Saying.{none-or}
use Rattle.row_readings.specs.PoolLimits.{limit_of, own_limits}
use Rattle.rules_limits.specs.AllProjects.{limits_sum, limits_any, is_any_limited, is_limited, needs_numbers}
use Rattle.rules_limits.specs.Limited.{has_limits}
use Rattle.rules_limits.specs.OneProject.{amounts_over, of_project, pool_uses_over, uses_over}
use Rattle.rules_limits.specs.Sums.{line_over}
use Rattle.rules_limits.specs.declared.one_project.InUse.{InUse}

-- ---- limits that are not set

not-set : (o : Option ℕ) → is_some o ≡ false → o ≡ None
not-set None e = refl
not-set (Some n) e = cc

pub neither : (a b : Bool) → (a || b) ≡ false → (a ≡ false) × (b ≡ false)
neither true b e = cc
neither false b e = (refl, e)

-- no sum is limited
pub record HasNoSum (l : Limits) : Type 0 where
  pub none : (k : SumKey) → sum_limit k l ≡ None

pub no-sum : (l : Limits) → limits_sum l ≡ false → HasNoSum l
no-sum l e =
    let last = neither (is_some l.cpu || is_some l.memory || is_some l.processes) (is_some l.disk) e in
    let third = neither (is_some l.cpu || is_some l.memory) (is_some l.processes) last.0 in
    let first = neither (is_some l.cpu) (is_some l.memory) third.0 in
    record { none = at (not-set l.cpu first.0) (not-set l.memory first.1) (not-set l.processes third.1) (not-set l.disk last.1) } where
      at : l.cpu ≡ None → l.memory ≡ None → l.processes ≡ None → l.disk ≡ None → (k : SumKey) → sum_limit k l ≡ None
      at cpu memory processes disk sum.Cpu = cpu
      at cpu memory processes disk sum.Memory = memory
      at cpu memory processes disk sum.Processes = processes
      at cpu memory processes disk sum.Disk = disk

-- nothing is limited
pub record HasNone (l : Limits) : Type 0 where
  pub parts : (k : Part) → limit_on k l ≡ None
  pub networks : l.networks ≡ None

pub no-limit : (l : Limits) → limits_any l ≡ false → HasNone l
no-limit l e =
    let last = neither (is_some l.instances || is_some l.containers || is_some l.machines || is_some l.networks) (limits_sum l) e in
    let fourth = neither (is_some l.instances || is_some l.containers || is_some l.machines) (is_some l.networks) last.0 in
    let third = neither (is_some l.instances || is_some l.containers) (is_some l.machines) fourth.0 in
    let first = neither (is_some l.instances) (is_some l.containers) third.0 in
    record {
      parts = at (not-set l.instances first.0) (not-set l.containers first.1) (not-set l.machines third.1) (no-sum l last.1);
      networks = not-set l.networks fourth.1;
    } where
      at : l.instances ≡ None → l.containers ≡ None → l.machines ≡ None → HasNoSum l → (k : Part) → limit_on k l ≡ None
      at instances containers machines free part_of.Instances = instances
      at instances containers machines free part_of.Containers = containers
      at instances containers machines free part_of.Machines = machines
      at instances containers machines free part_of.Cpu = free.none sum.Cpu
      at instances containers machines free part_of.Memory = free.none sum.Memory
      at instances containers machines free part_of.Processes = free.none sum.Processes
      at instances containers machines free part_of.Disk = free.none sum.Disk

-- ---- what limited sums need

module _ (p : Project) (none : needs_numbers p ≡ false) where
  free : HasNoSum (limits_of p.config)
  free = no-sum (limits_of p.config) (neither (limits_sum (limits_of p.config)) (limits_pools p.config) none).0

  no_pools : limits_pools p.config ≡ false
  no_pools = (neither (limits_sum (limits_of p.config)) (limits_pools p.config) none).1

  first_without_amount-none : (kind : Kind) (config : Settings) (devices : NamedDevices) → first_without_amount (limits_of p.config) kind config devices ≡ None
  unfolding first_without_amount
  first_without_amount-none kind config devices =
      none-first_of (λ k. sum_without_amount k (sum_limit k (limits_of p.config)) (counted k kind config devices)) sums
      (record { at = λ k m. ap (λ limit. sum_without_amount k limit (counted k kind config devices)) (free.none k) })

  instance-none : (s : State) (i : Instance) → instance_without_amount s p i ≡ None
  unfolding instance_without_amount
  instance-none s i =
      none-or
      (ap (object_without_amount p i.name)
      (first_without_amount-none i.kind (expanded_of s.projects s.profiles i).config (expanded_of s.projects s.profiles i).devices))
      (none-or (ap (object_without_size p i.name) (sized-root p.config (expanded_of s.projects s.profiles i).devices no_pools)) refl)

  volume-none : (v : Volume) → volume_lacks_amount p v ≡ None
  unfolding volume_lacks_amount volume_without_amount
  volume-none v =
      none-or (ap (λ limit. object_without_amount p v.name (sum_without_amount sum.Disk limit (size_in v.config (codes "size")))) (free.none sum.Disk))
      (none-or (ap (object_without_size p v.name) (sized-volume p.config v.pool v.config no_pools)) refl)

  claim-none : (s : State) (task : Task) → claim_without_amount s p task ≡ None
  claim-none s task =
      none-or (none-first_of _ _ (record { at = λ i m. instance-none s i }))
      (none-or (none-first_of _ _ (record { at = λ v m. volume-none v })) refl)

  pub unlimited-counts : (s : State) → project_without_amount s p ≡ None
  unlimited-counts s =
      none-or (none-first_of _ _ (record { at = λ i m. instance-none s i }))
      (none-or (none-first_of _ _ (record { at = λ v m. volume-none v }))
      (none-or (none-first_of (λ (o : Operation Task). claim_without_amount s p o.work) s.operations.live (record { at = λ o m. claim-none s o.work })) refl))

-- ---- limits

-- a project without one
pub record IsFree (p : Project) : Type 0 where
  pub limits : HasNone (limits_of p.config)
  pub pools : limited_pools p.config ≡ []

pub is-free : (p : Project) → is_limited p ≡ false → IsFree p
is-free p e =
    let both = neither (limits_any (limits_of p.config)) (limits_pools p.config) e in
    record { limits = no-limit (limits_of p.config) both.0; pools = no-pools p.config both.1 }

-- none of the projects has a limit
each-free : (ps : List Project) → is_any_limited ps ≡ false → Each IsFree ps
each-free [] e = Each-none
each-free (p ∷ ps) e =
    let parts = neither (is_limited p) (is_any_limited ps) e in
    Each-cons IsFree (is-free p parts.0) (each-free ps parts.1)

part-none : (s after : State) (k : Part) (p : Project) → IsFree p → part_exceeds s after k p ≡ None
unfolding part_exceeds
part-none s after k p free = ap (λ limit. limit_exceeded p (key_of k) limit (used s p.name k) (used after p.name k)) (free.limits.parts k)

networks-none : (s after : State) (p : Project) → IsFree p → networks_exceed s after p ≡ None
unfolding networks_exceed
networks-none s after p free = ap (λ limit. limit_exceeded p Networks limit (networks_of s p.name) (networks_of after p.name)) free.limits.networks

pools-none : (s after : State) (p : Project) → IsFree p → pools_exceed s after p ≡ None
unfolding pools_exceed
pools-none s after p free = ap (first_of (pool_exceeds s after p)) free.pools

pub unlimited-fits : (before after : State) → is_any_limited after.projects ≡ false → limits_broken before after ≡ None
unfolding limits_broken
unlimited-fits before after e =
    let free = each-free after.projects e in
    none-or
    (none-first_of (λ k. first_of (part_exceeds before after k) after.projects) parts
    (record { at = λ k m. none-first_of (part_exceeds before after k) after.projects (Each-map (part-none before after k) free) }))
    (none-or (none-first_of (networks_exceed before after) after.projects (Each-map (networks-none before after) free))
    (none-or (none-first_of (pools_exceed before after) after.projects (Each-map (pools-none before after) free)) refl))

-- ---- limits of one project

module _ (p : Project) (free : limits_any (limits_of p.config) ≡ false) where
  -- whatever it uses
  pub unlimited-amounts : (before after : Amounts) → amounts_over before after p ≡ None
  unlimited-amounts before after = none-first_of (λ k. line_over k (p, (before, after))) parts (record {
    at = λ k m. ap (λ limit. limit_exceeded p (key_of k) limit (part k before) (part k after)) ((no-limit (limits_of p.config) free).parts k);
  })

-- whatever it uses, of pools too
pub unlimited-uses : (p : Project) → is_limited p ≡ false → (before after : InUse) → uses_over (own_limits p) before after p ≡ None
unlimited-uses p none before after =
    let both = neither (limits_any (limits_of p.config)) (limits_pools p.config) none in
    let free = is-free p none in
    none-or (unlimited-amounts p both.0 before.amounts after.amounts)
    (none-or (ap (λ limit. limit_exceeded p Networks limit before.networks after.networks) free.limits.networks)
    (none-or (ap (λ pools. pool_uses_over (map (limit_of p) pools) before.pools after.pools) free.pools) refl))

-- of the project of a name
pub unlimited-named : (ps : List Project) (name : List ℕ) (before after : InUse) → has_limits ps name ≡ false
    → of_project (λ p. uses_over (own_limits p) before after p) ps name ≡ None
unlimited-named ps name before after = at (project_named ps name) where
  at : (o : Option Project) → option_map_or is_limited o false ≡ false → option_and_then (λ p. uses_over (own_limits p) before after p) o ≡ None
  at None none = refl
  at (Some p) none = unlimited-uses p none before after
