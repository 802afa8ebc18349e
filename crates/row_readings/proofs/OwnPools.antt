-- What a project's own rows and claims have on the pools that it limits is what it uses of them.
use Rattle.std.proofs.Common.{◌≡◌, ℕ, zero, suc, ◌+◌, ◌^◌, ◌<◌, ◌≤◌, Bool, true, false, cond, List, [], ◌∷◌, ◌++◌, length, map, take, get_or, filter, refl, sym, ap, ap₂, subst, ◌∙◌, arith}
use Rattle.std.specs.List.{filter_map, sum_by}
use Rattle.std.specs.Str.{bytes_eq}
use Rattle.std.proofs.Math.Seq.{take-length}
use Rattle.std.proofs.lemmas.List.{length-map, length-take-le}
use Rattle.std.proofs.lemmas.List.Sums.{sum_by-append, sum_by-cons}
use Rattle.std.proofs.lemmas.Slice.Eq.{bytes_eq-Decides}
use Rattle.plain_lists.specs.Members.{Each}
use Rattle.plain_lists.proofs.Elements.{Each-head, Each-tail}
use Rattle.plain_lists.proofs.Readings.{length-read}
use Rattle.expansion.specs.declared.expanded.Expanded.{Expanded}
use Rattle.operations.specs.declared.operation.Operation.{Operation}
use Rattle.project_limits.specs.Pools.{root_part}
use Rattle.records.specs.declared.rows.Instance.{Instance}
use Rattle.records.specs.declared.rows.Profile.{Profile}
use Rattle.records.specs.declared.rows.Project.{Project}
use Rattle.records.specs.declared.rows.Volume.{Volume}
use Rattle.row_machine.specs.machine.Claims.{part_of_instance}
use Rattle.row_machine.specs.machine.Expansions.{layer_of, own_layer, expanded_of}
use Rattle.row_machine.specs.machine.Homes.{home_of}
use Rattle.row_machine.specs.machine.Rows.{profile_named}
use Rattle.row_machine.specs.machine.State.{State}
use Rattle.row_machine.specs.machine.Task.{Task}
use Rattle.row_machine.specs.machine.Usage.{Load, loads, instance_load, volume_load, claim_load, on_pool_for}
use Rattle.size_values.specs.declared.kinds.ObjectKind.TheVariants as kind
use Rattle.row_readings.specs.Layered.{profiles_of, root_over}
use Rattle.row_readings.specs.PoolLimits.{pool_sums, together, used_under, AreSums}
use Rattle.row_readings.specs.declared.pool_limits.PoolLimit.{PoolLimit}
use Rattle.row_readings.proofs.Layered.{expanded-push, profiles_of-same}
use Rattle.row_readings.proofs.PoolLines.{are-sums}
use Rattle.row_readings.proofs.Ranges.{sum_by-filter}
use Rattle.row_readings.proofs.Small.{low-root_of, low-sized, low-of_instance, low-volume, small-mapped, small-read, small-claim}

-- ---- an instance of the project, over what its profiles lay

root-counted : (s : State) (project : List ℕ) (row : Instance) → bytes_eq row.project project ≡ true
    → root_over (profiles_of s.profiles (home_of s.projects project kind.Profile) row.profiles) row ≡ part_of_instance s row
unfolding part_of_instance expanded_of
root-counted s project row here =
    let home = (bytes_eq-Decides row.project project).0 here in
    ap (λ name. root_over (profiles_of s.profiles (home_of s.projects name kind.Profile) row.profiles) row) (sym home)
    ∙ ap (λ (e : Expanded). root_part e.devices)
    (sym (expanded-push (map (λ name. layer_of (profile_named s.profiles (home_of s.projects row.project kind.Profile) name)) row.profiles) (own_layer row)))

-- the same over what the profiles lay, as it was computed
pub root-over : (s : State) (project : List ℕ) (row : Instance) (projects : List Project) (profiles : List Profile) (home : List ℕ) (names : List (List ℕ)) (below : Expanded)
    → bytes_eq row.project project ≡ true → projects ≡ s.projects → profiles ≡ s.profiles
    → home ≡ home_of projects project kind.Profile → names ≡ row.profiles
    → below ≡ profiles_of profiles home names → root_over below row ≡ part_of_instance s row
root-over s project row projects profiles home names below here projects_are profiles_are home_is names_are below_is =
    let at_home = home_is ∙ ap (λ rows. home_of rows project kind.Profile) projects_are in
    ap (λ e. root_over e row) (below_is ∙ profiles_of-same profiles _ home _ names _ profiles_are at_home names_are)
    ∙ root-counted s project row here

-- ---- tables that are walked for

few-passing : {X : Type 0} (p : X → Bool) (xs : List X) → length (filter p xs) ≤ length xs
few-passing p [] = omega arith
few-passing {X} p (x ∷ xs) = at (p x) (few-passing p xs) where
  at : (b : Bool) → length (filter p xs) ≤ length xs → length (cond b (x ∷ filter p xs) (filter p xs)) ≤ suc (length xs)
  at true few = omega (arith, few)
  at false few = omega (arith, few)

pub instances-sums : (s : State) (limits : List PoolLimit) (p : Instance → Bool) (rows : List Instance) (i : ℕ) → i ≤ length rows → length rows < 2 ^ 63
    → AreSums limits (pool_sums (map (instance_load s) (filter p (take i rows))) limits)
instances-sums s limits p rows i within few =
    are-sums limits (map (instance_load s) (filter p (take i rows)))
    (small-mapped (instance_load s) (filter p (take i rows)) (λ r. record { parts = low-of_instance s r; on = low-root_of s r }))
    (omega (arith, few, within, length-map (filter p (take i rows)) (instance_load s), few-passing p (take i rows), length-take-le i rows within))

pub volumes-sums : (limits : List PoolLimit) (rows : List Volume) (i : ℕ) → i ≤ length rows → length rows < 2 ^ 63
    → AreSums limits (pool_sums (map volume_load (take i rows)) limits)
volumes-sums limits rows i within few =
    are-sums limits (map volume_load (take i rows))
    (small-mapped volume_load (take i rows) (λ v. record { parts = low-volume v.config; on = low-sized v.pool v.config }))
    (omega (arith, few, within, length-map (take i rows) volume_load, length-take-le i rows within))

pub claims-sums : (s : State) (limits : List PoolLimit) (live : List (Operation Task)) (i : ℕ) → i ≤ length live → length live < 2 ^ 63
    → AreSums limits (pool_sums (filter_map (λ o. claim_load s o.work) (take i live)) limits)
claims-sums s limits live i within few =
    are-sums limits (filter_map (λ (o : Operation Task). claim_load s o.work) (take i live))
    (small-read (λ (o : Operation Task). claim_load s o.work) (take i live) (λ o l is. small-claim s o.work l is))
    (omega (arith, few, within, length-read (λ (o : Operation Task). claim_load s o.work) (take i live), length-take-le i live within))

-- the whole of them
pub all-instances : (s : State) (limits : List PoolLimit) (p : Instance → Bool) (rows : List Instance) → length rows < 2 ^ 63
    → AreSums limits (pool_sums (map (instance_load s) (filter p rows)) limits)
all-instances s limits p rows few =
    subst (λ rs. AreSums limits (pool_sums (map (instance_load s) (filter p rs)) limits)) (take-length rows)
    (instances-sums s limits p rows (length rows) (omega arith) few)

pub all-volumes : (limits : List PoolLimit) (rows : List Volume) → length rows < 2 ^ 63 → AreSums limits (pool_sums (map volume_load rows) limits)
all-volumes limits rows few =
    subst (λ rs. AreSums limits (pool_sums (map volume_load rs) limits)) (take-length rows) (volumes-sums limits rows (length rows) (omega arith) few)

pub all-claims : (s : State) (limits : List PoolLimit) (live : List (Operation Task)) → length live < 2 ^ 63
    → AreSums limits (pool_sums (filter_map (λ o. claim_load s o.work) live) limits)
all-claims s limits live few =
    subst (λ os. AreSums limits (pool_sums (filter_map (λ (o : Operation Task). claim_load s o.work) os) limits)) (take-length live)
    (claims-sums s limits live (length live) (omega arith) few)

-- ---- all together

sum-mapped : {X : Type 0} (f : Load → ℕ) (g : X → Load) (xs : List X) → sum_by f (map g xs) ≡ sum_by (λ x. f (g x)) xs
sum-mapped f g [] = refl
sum-mapped f g (x ∷ xs) = omega (arith, sum_by-cons f (g x) (map g xs), sum_by-cons (λ y. f (g y)) x xs, sum-mapped f g xs)

module _ (s : State) (project : List ℕ) where
  abbrev own-rows : List Instance
  own-rows = filter (λ (row : Instance). bytes_eq row.project project) (filter (λ (row : Instance). bytes_eq row.project project) s.instances)

  abbrev own-volumes : List Volume
  own-volumes = filter (λ (row : Volume). bytes_eq row.project project) s.volumes

  abbrev claims : List Load
  claims = filter_map (λ (o : Operation Task). claim_load s o.work) s.operations.live

  line : (l : PoolLimit) → l.project ≡ project
      → used_under (map (instance_load s) own-rows) l + used_under (map volume_load own-volumes) l + used_under claims l ≡ used_under (loads s) l
  unfolding loads
  line l own =
      let f = on_pool_for l.project l.pool in
      let a = map (instance_load s) s.instances in
      let b = map volume_load s.volumes in
      let all : used_under (loads s) l ≡ sum_by f (a ++ b) + sum_by f claims = sum_by-append f (a ++ b) claims in
      let rows : sum_by f (a ++ b) ≡ sum_by f a + sum_by f b = sum_by-append f a b in
      let instances : used_under (map (instance_load s) own-rows) l ≡ sum_by f a =
      sum-mapped f (instance_load s) own-rows
      ∙ sum_by-filter (λ r. f (instance_load s r)) (λ (row : Instance). bytes_eq row.project project) (filter (λ (row : Instance). bytes_eq row.project project) s.instances) other-instance
      ∙ sum_by-filter (λ r. f (instance_load s r)) (λ (row : Instance). bytes_eq row.project project) s.instances other-instance
      ∙ sym (sum-mapped f (instance_load s) s.instances) in
      let volumes : used_under (map volume_load own-volumes) l ≡ sum_by f b =
      sum-mapped f volume_load own-volumes
      ∙ sum_by-filter (λ v. f (volume_load v)) (λ (row : Volume). bytes_eq row.project project) s.volumes other-volume
      ∙ sym (sum-mapped f volume_load s.volumes) in
      omega (arith, all, rows, instances, volumes)
    where
      other-instance : (row : Instance) → bytes_eq row.project project ≡ false → on_pool_for l.project l.pool (instance_load s row) ≡ 0
      other-instance row other = ap (λ b. cond b (cond (bytes_eq (part_of_instance s row).pool l.pool) (part_of_instance s row).disk 0) 0) (ap (bytes_eq row.project) own ∙ other)

      other-volume : (row : Volume) → bytes_eq row.project project ≡ false → on_pool_for l.project l.pool (volume_load row) ≡ 0
      other-volume row other = ap (λ b. cond b (cond (bytes_eq (volume_load row).on.pool l.pool) (volume_load row).on.disk 0) 0) (ap (bytes_eq row.project) own ∙ other)

  pub own-uses : (limits : List PoolLimit) → Each (λ (l : PoolLimit). l.project ≡ project) limits
      → together (pool_sums (map (instance_load s) own-rows) limits) (pool_sums (map volume_load own-volumes) limits) (pool_sums claims limits) ≡ pool_sums (loads s) limits
  own-uses [] own = refl
  own-uses (l ∷ ls) own = ap₂ (λ n ns. n ∷ ns) (line l (Each-head own)) (own-uses ls (Each-tail own))

-- three sums of the lines before a place, and of the line there
pub together-next : (a b c : List ℕ) (i : ℕ) → i < length a → i < length b → i < length c
    → together (take i a) (take i b) (take i c) ++ (get_or a i 0 + get_or b i 0 + get_or c i 0) ∷ [] ≡ together (take (i + 1) a) (take (i + 1) b) (take (i + 1) c)
together-next [] b c i in_a in_b in_c = absurd (omega (arith, in_a))
together-next (m ∷ a) [] c i in_a in_b in_c = absurd (omega (arith, in_b))
together-next (m ∷ a) (n ∷ b) [] i in_a in_b in_c = absurd (omega (arith, in_c))
together-next (m ∷ a) (n ∷ b) (k ∷ c) zero in_a in_b in_c = refl
together-next (m ∷ a) (n ∷ b) (k ∷ c) (suc i) in_a in_b in_c =
    let step : suc (i + 1) ≡ suc i + 1 = omega arith in
    ap (λ sums. (m + n + k) ∷ sums) (together-next a b c i (omega (arith, in_a)) (omega (arith, in_b)) (omega (arith, in_c)))
    ∙ ap (λ j. together (take j (m ∷ a)) (take j (n ∷ b)) (take j (k ∷ c))) step
