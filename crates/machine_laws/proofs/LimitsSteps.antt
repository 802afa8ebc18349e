-- Limits and policy while operations go on and end.
use Rattle.std.proofs.Common.{◌≡◌, ℕ, Some, List, ◌++◌, refl, ap, subst, arith}
use Rattle.std.specs.Prelude.{map}
use Rattle.std.specs.List.{sum_by}
use Rattle.plain_lists.specs.Members.{Mem}
use Rattle.plain_lists.specs.Edits.{dropped}
use Rattle.operations.specs.declared.operation.Operation.{Operation}
use Rattle.operations.specs.OperationTable.{OperationTable, has_number, live_at}
use Rattle.row_machine.specs.machine.Task.{Task}
use Rattle.records.specs.declared.notices.Notice.{Notice}
use Rattle.row_machine.specs.machine.State.{State, InstancePower}
use Rattle.row_machine.specs.machine.Claims.{claimed_instance, claimed_volume, judged_instances, judged_volumes, share_of, amounts_of_instance, part_of_share, part_of_instance}
use Rattle.row_machine.specs.machine.Usage.{Load, loads, claim_load, instance_load, volume_load}
use Rattle.machine_laws.proofs.Measures.{measured, used_by}
use Rattle.machine_laws.proofs.SharesAlike.{HoldsAlike}
use Rattle.row_machine.specs.facts.Whole.{IsWhole, AreWithin}
use Rattle.machine_laws.proofs.LimitsRows.{Tables, tables, IsDone}
use Rattle.machine_laws.proofs.LimitsLess.{IsLess, within-less}
use Rattle.machine_laws.proofs.LimitsEnds.{used-done, used-returned}
use Rattle.machine_laws.proofs.LimitsJudged.{judged_instance-done, judged_volume-done, judged_instance-fewer, judged_volume-fewer}
use Rattle.machine_laws.proofs.SharesCores.{cores, core_of, of_cores}
use Rattle.machine_laws.proofs.SharesSuccess.{share-done, done-projects}

-- the load of a claim is read off the core
core-load : (s : State) (task : Task) → claim_load s (core_of task) ≡ claim_load s task
unfolding share_of part_of_share
core-load s task = refl

-- operations with the same cores
pub less-cores : (s : State) (k : OperationTable Task) → cores k ≡ cores s.operations → IsLess s (record s { operations = k })
unfolding judged_instances judged_volumes loads share_of amounts_of_instance part_of_share part_of_instance
less-cores s k same = record {
  projects = refl;
  profiles = refl;
  networks = refl;
  instances = λ i m. subst (λ xs. Mem i (s.instances ++ xs)) (of_cores claimed_instance (λ task. refl) s (record s { operations = k }) same) m;
  volumes = λ v m. subst (λ xs. Mem v (s.volumes ++ xs)) (of_cores claimed_volume (λ task. refl) s (record s { operations = k }) same) m;
  usage = λ project part measure. let e : used_by (record s { operations = k }) project part ≡ used_by s project part =
      ap (λ xs. sum_by (measured project part) (loads_of xs)) (of_cores (claim_load s) (λ task. core-load s task) s (record s { operations = k }) same) in omega (arith, e);
} where
  loads_of : List Load → List Load
  loads_of xs = map (instance_load s) s.instances ++ map volume_load s.volumes ++ xs

pub within-cores : (s : State) (k : OperationTable Task) → cores k ≡ cores s.operations → AreWithin s → AreWithin (record s { operations = k })
within-cores s k same h = within-less s (record s { operations = k }) (less-cores s k same) h

-- an end that leaves the rows
pub within-returned : (s t : State) (n : ℕ) → tables t ≡ tables s → t.operations.live ≡ dropped (has_number n) s.operations.live
    → ((task : Task) → HoldsAlike s t task) → AreWithin s → AreWithin t
within-returned s t n rows rest same h = within-less s t (record {
  projects = ap (λ (x : Tables). x.projects) rows;
  profiles = ap (λ (x : Tables). x.profiles) rows;
  networks = ap (λ (x : Tables). x.networks) rows;
  instances = λ i m. judged_instance-fewer s t n i (ap (λ (x : Tables). x.instances) rows) rest m;
  volumes = λ v m. judged_volume-fewer s t n v (ap (λ (x : Tables). x.volumes) rows) rest m;
  usage = λ project k measure. used-returned s t n rows rest same project k;
}) h

-- a success
pub within-done : (s : State) (o : Operation Task) (t : State) → IsWhole s → live_at s.operations o.number ≡ Some o → IsDone (tables s) o.work (tables t)
    → t.operations.live ≡ dropped (has_number o.number) s.operations.live → AreWithin t
within-done s o t h live done rest = within-less s t (record {
  projects = (done-projects s done).0;
  profiles = (done-projects s done).1;
  networks = (done-projects s done).2;
  instances = judged_instance-done s o t live done rest;
  volumes = judged_volume-done s o t live done rest;
  usage = used-done s o t h live done rest (record { at = λ x m. share-done s o x t h live m done });
}) h.limits

-- what statuses and notices leave
pub less-powers : (s : State) (powers : List InstancePower) → IsLess s (record s { powers = powers })
unfolding judged_instances judged_volumes loads share_of amounts_of_instance part_of_share part_of_instance
less-powers s powers = record {
  projects = refl;
  profiles = refl;
  networks = refl;
  instances = λ i m. m;
  volumes = λ v m. m;
  usage = λ project part measure. let e : used_by (record s { powers = powers }) project part ≡ used_by s project part = refl in omega (arith, e);
}

pub less-notices : (s : State) (notices : List Notice) (next : ℕ) → IsLess s (record s { notices = notices; next_notice = next })
unfolding judged_instances judged_volumes loads share_of amounts_of_instance part_of_share part_of_instance
less-notices s notices next = record {
  projects = refl;
  profiles = refl;
  networks = refl;
  instances = λ i m. m;
  volumes = λ v m. m;
  usage = λ project part measure. let e : used_by (record s { notices = notices; next_notice = next }) project part ≡ used_by s project part = refl in omega (arith, e);
}

pub within-powers : (s : State) (powers : List InstancePower) → AreWithin s → AreWithin (record s { powers = powers })
within-powers s powers h = within-less s (record s { powers = powers }) (less-powers s powers) h

pub within-notices : (s : State) (notices : List Notice) (next : ℕ) → AreWithin s → AreWithin (record s { notices = notices; next_notice = next })
within-notices s notices next h = within-less s (record s { notices = notices; next_notice = next }) (less-notices s notices next) h
