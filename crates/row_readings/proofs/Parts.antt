-- Sums of what rows and claims add to one part of what a project uses.
use Rattle.std.proofs.Common.{◌≡◌, ℕ, ◌+◌, ◌<◌, ◌≤◌, ◌^◌, Bool, true, false, cond, Option, Some, None, List, [], ◌∷◌, ◌++◌, map, filter, length, refl, sym, ap, ◌∙◌, arith}
use Rattle.std.specs.List.{All, sum_by}
use Rattle.std.specs.Option.{option_map, option_map_or}
use Rattle.std.specs.Str.{bytes_eq}
use Rattle.std.proofs.lemmas.List.Elements.{All-nil, All-cons}
use Rattle.std.proofs.lemmas.List.Sums.{sum_by-append, sum_by-cons, sum_by-le}
use Rattle.plain_lists.proofs.Readings.{sum_by-read}
use Rattle.operations.specs.declared.operation.Operation.{Operation}
use Rattle.records.specs.declared.rows.Instance.{Instance}
use Rattle.records.specs.declared.rows.Row.{Row}
use Rattle.records.specs.declared.rows.Volume.{Volume}
use Rattle.row_machine.specs.machine.Claims.{of_live, amounts_of_instance, part_of_share, project_of_row, share_of}
use Rattle.row_machine.specs.machine.Expansions.{expanded_of}
use Rattle.row_machine.specs.machine.State.{State}
use Rattle.row_machine.specs.machine.Task.{Task}
use Rattle.row_machine.specs.machine.Usage.{Load, loads, instance_load, volume_load, claim_load, amount_for, used, usage_of}
use Rattle.row_readings.proofs.Ranges.{sum_by-filter}
use Rattle.row_readings.proofs.Small.{AreLow, low-instance, low-volume, low-share_of}
use Rattle.size_values.specs.Amounts.{part, nothing}
use Rattle.size_values.specs.declared.amounts.Amounts.{Amounts}
use Rattle.size_values.specs.declared.amounts.Part.{Part}
use Rattle.size_values.specs.declared.amounts.Part.TheVariants as part_of
use Rattle.size_values.proofs.AmountParts.{same-parts}
use Rattle.row_readings.specs.Counted.{instance_part, volume_part, claim_part}

-- ---- each is small

low-of_instance : (s : State) (row : Instance) → AreLow (amounts_of_instance s row)
unfolding amounts_of_instance
low-of_instance s row = low-instance row.kind (expanded_of s.projects s.profiles row).config (expanded_of s.projects s.profiles row).devices

small-load : (project : List ℕ) (k : Part) (load : Load) → AreLow load.amounts → amount_for project k load ≤ 2 ^ 63
small-load project k load low = at (bytes_eq load.project project) (low k) where
  at : (t : Bool) → part k load.amounts < 2 ^ 63 → cond t (part k load.amounts) 0 ≤ 2 ^ 63
  at true small = omega arith
  at false small = omega arith

small-claim : (s : State) (project : List ℕ) (k : Part) (task : Task) → claim_part s project k task ≤ 2 ^ 63
small-claim s project k task = at task.claim where
  load : Row → Load
  load new = record { project = project_of_row new; amounts = share_of s task; on = part_of_share s task }

  at : (claim : Option Row) → option_map_or (amount_for project k) (option_map load claim) 0 ≤ 2 ^ 63
  at None = omega arith
  at (Some new) = small-load project k (load new) (low-share_of s task)

-- ---- sums of what is small

each : {X : Type 0} (f : X → ℕ) (most : ℕ) → ((x : X) → f x ≤ most) → (xs : List X) → All (λ x. f x ≤ most) xs
each f most h [] = All-nil (λ x. f x ≤ most)
each f most h (x ∷ xs) = All-cons (λ y. f y ≤ most) x xs (h x) (each f most h xs)

sum-few : {X : Type 0} (f : X → ℕ) → ((x : X) → f x ≤ 2 ^ 63) → (xs : List X) → length xs < 2 ^ 63 → sum_by f xs ≤ 2 ^ 126
sum-few f h xs short =
    let le = sum_by-le f (2 ^ 63) xs (each f (2 ^ 63) h xs) in
    omega arith

pub few-instances : (s : State) (project : List ℕ) (k : Part) (rows : List Instance) → length rows < 2 ^ 63 → sum_by (instance_part s project k) rows ≤ 2 ^ 126
few-instances s project k rows = sum-few (instance_part s project k) (λ i. small-load project k (instance_load s i) (low-of_instance s i)) rows

pub few-volumes : (project : List ℕ) (k : Part) (rows : List Volume) → length rows < 2 ^ 63 → sum_by (volume_part project k) rows ≤ 2 ^ 126
few-volumes project k rows = sum-few (volume_part project k) (λ v. small-load project k (volume_load v) (low-volume v.config)) rows

pub few-claims : (s : State) (project : List ℕ) (k : Part) (live : List (Operation Task)) → length live < 2 ^ 63 → sum_by (λ o. claim_part s project k o.work) live ≤ 2 ^ 126
few-claims s project k live = sum-few (λ (o : Operation Task). claim_part s project k o.work) (λ o. small-claim s project k o.work) live

-- ---- the sums over all that counts

sum_by-map : {X Y : Type 0} (g : X → Y) (f : Y → ℕ) (xs : List X) → sum_by f (map g xs) ≡ sum_by (λ x. f (g x)) xs
sum_by-map g f [] = refl
sum_by-map g f (x ∷ xs) = omega (arith, sum_by-cons f (g x) (map g xs), sum_by-cons (λ y. f (g y)) x xs, sum_by-map g f xs)

pub used-parts : (s : State) (project : List ℕ) (k : Part)
    → used s project k ≡ sum_by (instance_part s project k) s.instances + sum_by (volume_part project k) s.volumes + sum_by (λ o. claim_part s project k o.work) s.operations.live
unfolding loads
used-parts s project k =
    let counts = amount_for project k in
    omega (
      arith,
      sum_by-append counts (map (instance_load s) s.instances ++ map volume_load s.volumes) (of_live (claim_load s) s),
      sum_by-append counts (map (instance_load s) s.instances) (map volume_load s.volumes),
      sum_by-map (instance_load s) counts s.instances,
      sum_by-map volume_load counts s.volumes,
      sum_by-read (λ (o : Operation Task). claim_load s o.work) counts s.operations.live,
    )

pub none-of : (k : Part) → part k nothing ≡ 0
none-of part_of.Instances = refl
none-of part_of.Containers = refl
none-of part_of.Machines = refl
none-of part_of.Cpu = refl
none-of part_of.Memory = refl
none-of part_of.Processes = refl
none-of part_of.Disk = refl

pub part-of_usage : (s : State) (project : List ℕ) (k : Part) → part k (usage_of s project) ≡ used s project k
unfolding usage_of
part-of_usage s project part_of.Instances = refl
part-of_usage s project part_of.Containers = refl
part-of_usage s project part_of.Machines = refl
part-of_usage s project part_of.Cpu = refl
part-of_usage s project part_of.Memory = refl
part-of_usage s project part_of.Processes = refl
part-of_usage s project part_of.Disk = refl

-- instances of other projects add nothing
own-instances : (s : State) (project : List ℕ) (k : Part) (rows : List Instance)
    → sum_by (instance_part s project k) (filter (λ row. bytes_eq row.project project) rows) ≡ sum_by (instance_part s project k) rows
own-instances s project k rows =
    sum_by-filter (instance_part s project k) (λ (row : Instance). bytes_eq row.project project) rows
    (λ row other. ap (λ t. cond t (part k (amounts_of_instance s row)) 0) other)

-- nor do their volumes
own-volumes : (project : List ℕ) (k : Part) (rows : List Volume)
    → sum_by (volume_part project k) (filter (λ row. bytes_eq row.project project) rows) ≡ sum_by (volume_part project k) rows
own-volumes project k rows =
    sum_by-filter (volume_part project k) (λ (row : Volume). bytes_eq row.project project) rows
    (λ row other. ap (λ t. cond t (part k (volume_load row).amounts) 0) other)

-- three sums, each begun with the one before it, over the instances and volumes of the project, are the usage
pub usage-summed : (s : State) (project : List ℕ) (none some more all : Amounts) (instances : List Instance) (volumes : List Volume) (live : List (Operation Task))
    → none ≡ nothing → instances ≡ filter (λ row. bytes_eq row.project project) s.instances
    → volumes ≡ filter (λ row. bytes_eq row.project project) s.volumes → live ≡ s.operations.live
    → ((k : Part) → part k some ≡ part k none + sum_by (instance_part s project k) instances)
    → ((k : Part) → part k more ≡ part k some + sum_by (volume_part project k) volumes)
    → ((k : Part) → part k all ≡ part k more + sum_by (λ o. claim_part s project k o.work) live)
    → all ≡ usage_of s project
usage-summed s project none some more all instances volumes live none_is instances_are volumes_are live_are first second third =
    same-parts all (usage_of s project) (λ k. summed k ∙ sym (used-parts s project k) ∙ sym (part-of_usage s project k)) where
      summed : (k : Part) → part k all ≡ sum_by (instance_part s project k) s.instances + sum_by (volume_part project k) s.volumes + sum_by (λ o. claim_part s project k o.work) s.operations.live
      summed k = omega (
        arith,
        first k,
        second k,
        third k,
        ap (part k) none_is,
        none-of k,
        ap (sum_by (instance_part s project k)) instances_are,
        own-instances s project k s.instances,
        ap (sum_by (volume_part project k)) volumes_are,
        own-volumes project k s.volumes,
        ap (sum_by (λ (o : Operation Task). claim_part s project k o.work)) live_are,
      )
