-- What projects use after each kind of step.
use Rattle.std.proofs.Common.{◌≡◌, ◌≢◌, ℕ, ◌+◌, ◌-◌, true, Some, None, List, ◌++◌, refl, sym, ◌∙◌, ap, arith}
use Rattle.std.specs.Prelude.{map}
use Rattle.std.specs.List.{sum_by}
use Rattle.plain_lists.specs.Edits.{dropped}
use Rattle.plain_lists.proofs.PutsLemmas.{sum_by-Puts}
use Rattle.plain_lists.proofs.EditLemmas.{dropped-Puts}
use Rattle.plain_lists.proofs.Readings.{sum_by-same}
use Rattle.size_values.specs.Amounts.{part}
use Rattle.size_values.specs.PoolParts.{on_pool}
use Rattle.size_values.specs.declared.amounts.Part.{Part}
use Rattle.size_values.proofs.AmountParts.{same-parts}
use Rattle.operations.specs.declared.operation.Operation.{Operation}
use Rattle.operations.specs.declared.operation.OpFault.{OpFault}
use Rattle.operations.specs.declared.operation.OpFault.TheVariants as fault
use Rattle.operations.specs.declared.status.Status.{Status}
use Rattle.operations.specs.declared.status.Status.TheVariants as status
use Rattle.operations.specs.OperationTable.{OperationTable, has_number, live_at}
use Rattle.records.specs.declared.notices.Untold.{Untold}
use Rattle.row_machine.specs.machine.Task.{Task}
use Rattle.row_machine.specs.machine.State.{State}
use Rattle.row_machine.specs.machine.Claims.{amounts_of_instance, part_of_instance, share_of, part_of_share}
use Rattle.row_machine.specs.shown.Notices.{telling}
use Rattle.row_machine.specs.machine.Usage.{Load, loads, used, used_on, usage_of, claim_load, instance_load, volume_load}
use Rattle.row_machine.specs.machine.Operations.{returned, ended, failed, cancelled}
use Rattle.row_readings.specs.declared.amounts.Footprint.{Footprint}
use Rattle.machine_laws.proofs.BooksSteps.{failure-keeps, telling-keeps}
use Rattle.machine_laws.proofs.LimitsEnds.{claims-same, instance-same}
use Rattle.machine_laws.proofs.LimitsRows.{Tables, tables}
use Rattle.machine_laws.proofs.LimitsSums.{instance_part, volume_part, claim_part, used-split}
use Rattle.machine_laws.proofs.Measures.{Measure, IsMeasure, measured, used_by, by_part, by_pool, part-measure, pool-measure}
use Rattle.machine_laws.proofs.SharesAlike.{HoldsAlike}
use Rattle.machine_laws.proofs.SharesCores.{cores, core_of, of_cores}
use Rattle.machine_laws.proofs.SharesSuccess.{counts-tables}

-- ---- what projects use, by each measure

pub part-used : (s : State) (project : List ℕ) (k : Part) → part k (usage_of s project) ≡ used s project k
unfolding usage_of
part-used s project Part.Instances = refl
part-used s project Part.Containers = refl
part-used s project Part.Machines = refl
part-used s project Part.Cpu = refl
part-used s project Part.Memory = refl
part-used s project Part.Processes = refl
part-used s project Part.Disk = refl

-- each project uses as much in both states
abbrev pub SameUsage : State → State → Type 0
SameUsage s t = (project : List ℕ) (k : Measure) → IsMeasure k → used_by t project k ≡ used_by s project k

pub same-amounts : (s t : State) (project : List ℕ) → ((k : Measure) → IsMeasure k → used_by t project k ≡ used_by s project k)
    → usage_of t project ≡ usage_of s project
same-amounts s t project same =
    same-parts (usage_of t project) (usage_of s project)
    (λ k. part-used t project k ∙ same (by_part k) (part-measure k) ∙ sym (part-used s project k))

-- What a project uses falls by this, part by part and on its pool, and what the others use stays.
pub record Falls (s t : State) (project : List ℕ) (fall : Footprint) : Type 0 where
  pub own : (k : Part) → part k (usage_of s project) ≡ part k (usage_of t project) + part k fall.amounts
  pub others : (other : List ℕ) → project ≢ other → usage_of t other ≡ usage_of s other
  pub own_pools : (pool : List ℕ) → used_on s project pool ≡ used_on t project pool + on_pool pool fall.on
  pub other_pools : (other : List ℕ) → project ≢ other → (pool : List ℕ) → used_on t other pool ≡ used_on s other pool

-- by each measure
pub falls-measured : (s t : State) (project : List ℕ) (fall : Footprint)
    → ((k : Measure) → IsMeasure k → used_by s project k ≡ used_by t project k + k fall.amounts fall.on)
    → ((other : List ℕ) → project ≢ other → (k : Measure) → IsMeasure k → used_by t other k ≡ used_by s other k)
    → Falls s t project fall
falls-measured s t project fall own others = record {
  own = λ k.
      let all : used s project k ≡ used t project k + part k fall.amounts = own (by_part k) (part-measure k) in
      let before = part-used s project k in
      let after = part-used t project k in
      omega (arith, all, before, after);
  others = λ other apart. same-amounts s t other (others other apart);
  own_pools = λ pool. own (by_pool pool) (pool-measure pool);
  other_pools = λ other apart pool. others other apart (by_pool pool) (pool-measure pool);
}

-- ---- what leaves it

-- notices, statuses, and the end of the server's work
pub usage-telling : (ns : List Untold) (s : State) → SameUsage s (telling ns s)
unfolding loads share_of amounts_of_instance part_of_share part_of_instance
usage-telling ns s = telling-keeps (SameUsage s) (λ t notices next same project k measure. same project k measure) ns s (λ project k measure. refl)

pub usage-told : (s t : State) (ns : List Untold) → SameUsage s (telling ns t) → SameUsage s t
usage-told s t ns same project k measure = sym (usage-telling ns t project k measure) ∙ same project k measure

pub told-usage : (s t : State) (ns : List Untold) → SameUsage s t → SameUsage s (telling ns t)
told-usage s t ns same project k measure = usage-telling ns t project k measure ∙ same project k measure

pub usage-closed : (s : State) → SameUsage s (record s { closed = true })
unfolding loads share_of amounts_of_instance part_of_share part_of_instance
usage-closed s project k measure = refl

-- a fall before notices is one after them
pub falls-told : (s t : State) (project : List ℕ) (fall : Footprint) (ns : List Untold) → Falls s t project fall → Falls s (telling ns t) project fall
falls-told s t project fall ns f = record {
  own = λ k. f.own k ∙ ap (λ u. part k u + part k fall.amounts) (sym (amounts project));
  others = λ other apart. amounts other ∙ f.others other apart;
  own_pools = λ pool. f.own_pools pool ∙ ap (λ u. u + on_pool pool fall.on) (sym (pools project pool));
  other_pools = λ other apart pool. pools other pool ∙ f.other_pools other apart pool;
} where
  amounts : (name : List ℕ) → usage_of (telling ns t) name ≡ usage_of t name
  amounts name = same-amounts t (telling ns t) name (usage-telling ns t name)

  pools : (name pool : List ℕ) → used_on (telling ns t) name pool ≡ used_on t name pool
  pools name pool = usage-telling ns t name (by_pool pool) (pool-measure pool)

-- and the other way round
pub falls-untold : (s t : State) (project : List ℕ) (fall : Footprint) (ns : List Untold) → Falls s (telling ns t) project fall → Falls s t project fall
falls-untold s t project fall ns f = record {
  own = λ k. f.own k ∙ ap (λ u. part k u + part k fall.amounts) (amounts project);
  others = λ other apart. sym (amounts other) ∙ f.others other apart;
  own_pools = λ pool. f.own_pools pool ∙ ap (λ u. u + on_pool pool fall.on) (pools project pool);
  other_pools = λ other apart pool. sym (pools other pool) ∙ f.other_pools other apart pool;
} where
  amounts : (name : List ℕ) → usage_of (telling ns t) name ≡ usage_of t name
  amounts name = same-amounts t (telling ns t) name (usage-telling ns t name)

  pools : (name pool : List ℕ) → used_on (telling ns t) name pool ≡ used_on t name pool
  pools name pool = usage-telling ns t name (by_pool pool) (pool-measure pool)

-- operations that go on
core-load : (s : State) (task : Task) → claim_load s (core_of task) ≡ claim_load s task
unfolding share_of part_of_share
core-load s task = refl

pub usage-cores : (s : State) (k : OperationTable Task) → cores k ≡ cores s.operations → SameUsage s (record s { operations = k })
unfolding loads share_of amounts_of_instance part_of_share part_of_instance
usage-cores s k same project m measure = ap (λ xs. sum_by (measured project m) (loads_of xs))
    (of_cores (claim_load s) (λ task. core-load s task) s (record s { operations = k }) same) where
      loads_of : List Load → List Load
      loads_of xs = map (instance_load s) s.instances ++ map volume_load s.volumes ++ xs

-- ---- an end that leaves all rows

-- the projects use what they did but for what the operation claimed
abbrev pub Loses : State → State → Operation Task → Type 0
Loses s t o = (project : List ℕ) (k : Measure) → IsMeasure k → used_by s project k ≡ used_by t project k + claim_part s project k o

used-back : (s t : State) (n : ℕ) (o : Operation Task) → live_at s.operations n ≡ Some o → tables t ≡ tables s
    → t.operations.live ≡ dropped (has_number n) s.operations.live → ((task : Task) → HoldsAlike s t task) → Loses s t o
used-back s t n o live rows rest same project k measure =
    let before = used-split s project k in
    let after = used-split t project k in
    let claims : sum_by (claim_part s project k) s.operations.live ≡ claim_part s project k o + sum_by (claim_part s project k) (dropped (has_number n) s.operations.live) =
    sum_by-Puts (claim_part s project k) (dropped-Puts (has_number n) o s.operations.live live) in
    let others : sum_by (claim_part t project k) t.operations.live ≡ sum_by (claim_part s project k) (dropped (has_number n) s.operations.live) =
    ap (sum_by (claim_part t project k)) rest ∙ claims-same s t project k (dropped (has_number n) s.operations.live) (record { at = λ x m. same x.work }) in
    let volumes : sum_by (volume_part project k) t.volumes ≡ sum_by (volume_part project k) s.volumes = ap (λ (x : Tables). sum_by (volume_part project k) x.volumes) rows in
    let instances : sum_by (instance_part t project k) t.instances ≡ sum_by (instance_part s project k) s.instances =
    sum_by-same (instance_part t project k) (instance_part s project k) t.instances
    (record {
      at = λ i m. instance-same s t project k i (counts-tables s t i (ap (λ (x : Tables). x.projects) rows) (ap (λ (x : Tables). x.profiles) rows));
    })
    ∙ ap (λ (x : Tables). sum_by (instance_part s project k) x.instances) rows in
    omega (arith, before, after, claims, others, volumes, instances)

returned-loses : (s : State) (n : ℕ) (now : Status) (why : OpFault) (moment : ℕ) (o : Operation Task) → live_at s.operations n ≡ Some o
    → Loses s (returned n (ended n now why moment s)) o
unfolding share_of amounts_of_instance part_of_share part_of_instance
returned-loses s n now why moment o live =
    used-back s (returned n (ended n now why moment s)) n o live refl refl (λ task. record { share = refl; part = refl })

pub cancelled-loses : (s : State) (n moment : ℕ) (o : Operation Task) → live_at s.operations n ≡ Some o → Loses s (cancelled s n moment) o
unfolding cancelled
cancelled-loses s n moment o live = returned-loses s n status.Cancelled fault.None moment o live

pub failed-loses : (s : State) (o : Operation Task) (why : OpFault) (done moment : ℕ) → live_at s.operations o.number ≡ Some o
    → Loses s (failed s o why done moment) o
unfolding failed loads share_of amounts_of_instance part_of_share part_of_instance
failed-loses s o why done moment live =
    failure-keeps (λ t. Loses s (returned o.number (ended o.number status.Failure why moment t)) o)
    (λ t powers h project k measure. h project k measure) o.work done s (returned-loses s o.number status.Failure why moment o live)

pub loses-told : (s t : State) (o : Operation Task) (ns : List Untold) → Loses s t o → Loses s (telling ns t) o
unfolding loads share_of amounts_of_instance part_of_share part_of_instance
loses-told s t o ns h = telling-keeps (λ u. Loses s u o) (λ u notices next loses project k measure. loses project k measure) ns t h

pub loses-untold : (s t : State) (o : Operation Task) (ns : List Untold) → Loses s (telling ns t) o → Loses s t o
loses-untold s t o ns h project k measure =
    h project k measure ∙ ap (λ u. u + claim_part s project k o) (usage-telling ns t project k measure)
